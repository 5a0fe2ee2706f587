-- The marked cases: what each call gives is what the paper says. Assumes nothing.
use mathlib.Core.Path.{◌≡◌, refl}
use mathlib.Core.List.{[], ◌∷◌, map}
use Rattle.bounded.specs.Lists.{memb, place, lowest}
use Rattle.grid.specs.Grid.{meeting}
use Rattle.net.specs.Net.{u16_at, net_of}
use Rattle.netlist.specs.Netlist.{trailer_of, record_part, record_bytes}
use Rattle.assignment.specs.Assignment.{tracks_of}
use Rattle.routing.specs.MarkedCases.{Case, Result, result_of, sheet_t, marked_cases}

-- the bytes that the paper prints
pub sheet_t-printed : sheet_t 0 2 0
    ≡ 0x01 ∷ 0x00 ∷ 0x02 ∷ 0x00 ∷ 0x00 ∷ 0x00 ∷ 0xFF ∷ 0xFF ∷ 0x01 ∷ 0x00 ∷ 0x00 ∷ 0x00 ∷
    0x02 ∷ 0x00 ∷ 0x02 ∷ 0x00 ∷ 0x01 ∷ 0x00 ∷ 0xFF ∷ 0xFF ∷ 0x05 ∷ 0x00 ∷ 0x00 ∷ 0x00 ∷
    0x03 ∷ 0x00 ∷ 0x02 ∷ 0x00 ∷ 0x00 ∷ 0x00 ∷ 0xFF ∷ 0xFF ∷ 0x05 ∷ 0x00 ∷ 0x00 ∷ 0x00 ∷
    0x00 ∷ 0x00 ∷ 0x0C ∷ 0x00 ∷ 0x18 ∷ 0x00 ∷
    0x03 ∷ 0x02 ∷ 0x00 ∷ 0x02 ∷ 0x03 ∷ 0x00 ∷ 0x24 ∷ 0x00 ∷ 0x36 ∷ 0x00 ∷ 0x57 ∷ 0x48 ∷ []
sheet_t-printed = refl

pub marked-cases : map (λ (x : Case × Result). result_of x.0) marked_cases ≡ map (λ (x : Case × Result). x.1) marked_cases
unfolding result_of trailer_of u16_at net_of record_bytes record_part meeting tracks_of memb place lowest
marked-cases = refl
