-- The lines that 01 prints for sheet T ("Sheets to try", end), those of a net number of ten digits, and those of a refusal, from the definitions. Assumes nothing.
use mathlib.Core.Path.{◌≡◌, refl}
use Prim.Native.Nat.{ℕ}
use mathlib.Core.List.{List, [], ◌∷◌, ◌++◌}
use Rattle.bounded.specs.Lists.{memb, place, lowest}
use Rattle.decimal.specs.Decimal.{digits}
use Rattle.grid.specs.Grid.{meeting}
use Rattle.net.specs.Net.{u16_at, net_of}
use Rattle.netlist.specs.Netlist.{trailer_of, record_part, record_bytes}
use Rattle.assignment.specs.Assignment.{tracks_of}
use Rattle.routing.specs.MarkedCases.{sheet_t}
use Rattle.lines.specs.Lines.{least_text}

-- one net, 4,294,967,295 on channel 0, marked 57 49, W 2
abbrev longest : List ℕ
longest =
    (0xFF ∷ 0xFF ∷ 0xFF ∷ 0xFF ∷ 1 ∷ 0 ∷ 0 ∷ 0 ∷ 0xFF ∷ 0xFF ∷ [])
    ++ (0 ∷ 0 ∷ [])
    ++ (3 ∷ 2 ∷ 0 ∷ 2 ∷ 1 ∷ 0 ∷ 10 ∷ 0 ∷ 24 ∷ 0 ∷ 0x57 ∷ 0x49 ∷ [])

-- "answer 0 width 3 trials 16", "1 0.0 1.0", "2 1.1 5.1", "3 0.2 5.2"
pub lines-T : least_text (sheet_t 0 2 0)
    ≡ (97 ∷ 110 ∷ 115 ∷ 119 ∷ 101 ∷ 114 ∷ 32 ∷ 48 ∷ 32 ∷ 119 ∷ 105 ∷ 100 ∷ 116 ∷ 104 ∷ 32 ∷ 51 ∷
    32 ∷ 116 ∷ 114 ∷ 105 ∷ 97 ∷ 108 ∷ 115 ∷ 32 ∷ 49 ∷ 54 ∷ 10 ∷ [])
    ++ (49 ∷ 32 ∷ 48 ∷ 46 ∷ 48 ∷ 32 ∷ 49 ∷ 46 ∷ 48 ∷ 10 ∷ [])
    ++ (50 ∷ 32 ∷ 49 ∷ 46 ∷ 49 ∷ 32 ∷ 53 ∷ 46 ∷ 49 ∷ 10 ∷ [])
    ++ (51 ∷ 32 ∷ 48 ∷ 46 ∷ 50 ∷ 32 ∷ 53 ∷ 46 ∷ 50 ∷ 10 ∷ [])
unfolding least_text digits trailer_of u16_at net_of record_bytes record_part meeting tracks_of memb place lowest
lines-T = refl

-- a net number of ten digits (02, M-106): "answer 0 width 1 trials 1", "4294967295 0.0"
pub lines_long : least_text longest
    ≡ (97 ∷ 110 ∷ 115 ∷ 119 ∷ 101 ∷ 114 ∷ 32 ∷ 48 ∷ 32 ∷ 119 ∷ 105 ∷ 100 ∷ 116 ∷ 104 ∷ 32 ∷ 49 ∷
    32 ∷ 116 ∷ 114 ∷ 105 ∷ 97 ∷ 108 ∷ 115 ∷ 32 ∷ 49 ∷ 10 ∷ [])
    ++ (52 ∷ 50 ∷ 57 ∷ 52 ∷ 57 ∷ 54 ∷ 55 ∷ 50 ∷ 57 ∷ 53 ∷ 32 ∷ 48 ∷ 46 ∷ 48 ∷ 10 ∷ [])
unfolding least_text digits trailer_of u16_at net_of record_bytes record_part meeting tracks_of memb place lowest
lines_long = refl

-- "A refusal prints the first line only": no bytes, "answer 1 width 0 trials 0"
pub lines-empty : least_text []
    ≡ 97 ∷ 110 ∷ 115 ∷ 119 ∷ 101 ∷ 114 ∷ 32 ∷ 49 ∷ 32 ∷ 119 ∷ 105 ∷ 100 ∷ 116 ∷ 104 ∷ 32 ∷ 48 ∷
    32 ∷ 116 ∷ 114 ∷ 105 ∷ 97 ∷ 108 ∷ 115 ∷ 32 ∷ 48 ∷ 10 ∷ []
unfolding least_text digits trailer_of u16_at net_of record_bytes record_part meeting tracks_of memb place lowest
lines-empty = refl
