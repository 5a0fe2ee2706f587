-- What the code's contracts and the laws say of the bytes beside the paper's definitions. Definitions only. Assumes nothing.
use Rattle.std.specs.Prelude.{ℕ}

-- how many bytes an entry has
abbrev pub entry_length : ℕ
entry_length = 4
