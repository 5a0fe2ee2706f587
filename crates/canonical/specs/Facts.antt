-- What the laws and the code's contracts say of one net beside the paper's definitions. Definitions only; laws: proofs/CanonicalLaws.antt.
-- Assumes nothing.
use Rattle.std.specs.Prelude.{ℕ, List}
use Rattle.net.specs.Net.{Net, has, edge}
use Rattle.canonical.specs.Canonical.{next_channel, written}

-- the first k channels that are written of the net n, and the one that comes next behind the channels ws
abbrev pub written_of : Net → ℕ → List ℕ
written_of n k = written (has n) (edge n) k

abbrev pub next_of : Net → List ℕ → ℕ
next_of n ws = next_channel (has n) (edge n) ws
