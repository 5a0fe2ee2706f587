-- Lists of nets (01 "The sheet", "The ticket"): a net by its place, the nets of a list, their entries. Definitions only; laws: proofs/NetsLaws.antt.
-- Assumes nothing.
use Rattle.std.specs.Prelude.{ℕ, ◌+◌, List, [], ◌∷◌, get_or, ◌≡◌, ◌⊎◌}
use Rattle.net.specs.Net.{Net, size}

abbrev pub no_net : Net
no_net = record { number = 0; entries = [] }

-- the net at index k of a list
abbrev pub net_in : List Net → ℕ → Net
net_in ns k = get_or ns k no_net

-- the net n is one of the list
abbrev pub In : Net → List Net → Type 0
In n [] = ⊥
In n (m ∷ ms) = (n ≡ m) ⊎ In n ms

-- "entry count, … over all its nets together"
unfoldable pub entry_count : List Net → ℕ
entry_count [] = 0
entry_count (n ∷ ns) = size n + entry_count ns
