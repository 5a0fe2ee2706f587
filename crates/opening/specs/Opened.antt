-- The conditions of an opening. Definitions only. Assumes nothing.
use Rattle.std.specs.Prelude.{ℕ, List, ◌++◌, Bool}
use Rattle.netlist.specs.Netlist.{sheet_conditions, channels_of}
use Rattle.defects.specs.Defects.{list_conditions}

-- 1 to 9 and 18 of the sheet s, then 19 and 20 of the list d for its chip
abbrev pub open_conditions : List ℕ → List ℕ → List (ℕ × Bool)
open_conditions s d = sheet_conditions s ++ list_conditions (channels_of s) d
