-- The hypotheses of the promises about boxes by parameters can be met, and what they give: rows and sheets of kind 3, worked out by hand.
-- Assumes nothing.
use mathlib.Core.Path.{◌≡◌, refl, ap}
use Prim.Native.Nat.{ℕ, ◌+◌, ◌%◌, ◌<◌}
use native.Mathlib.Omega.{arith}
use mathlib.Core.Bool.{true}
use mathlib.Core.List.{List, [], ◌∷◌, ◌++◌, map}
use lib.ListN.{get_or}
use Rattle.bounded.specs.Lists.{memb, place, lowest}
use Rattle.grid.specs.Grid.{right, bottom, meeting}
use Rattle.switchbox.specs.SwitchBox.{rows_kind, adds, takes, rows_allowed, switch_track}
use Rattle.switchbox.specs.Generator.{table_track, no_table, generated, published, rows_of_kind}
use Rattle.switchbox.specs.Facts.{AllowedRows}
use Rattle.switchbox.proofs.ByHand.{mixed}
use Rattle.net.specs.Net.{u16_at, net_of}
use Rattle.netlist.specs.Netlist.{trailer_of, rows_of, SameKind, record_part, record_bytes, WellFormed, refusal}
use Rattle.netlist.specs.Meanings.{BadParameter}
use Rattle.reader.specs.Read.{read_of}
use Rattle.assignment.specs.Assignment.{tracks_of}
use Rattle.routing.specs.Outcomes.{route, least, refit, lent}
use Rattle.routing.specs.Equivalent.{Equivalent}
use Rattle.routing.specs.MarkedCases.{Case, read, check, call, Result, result_of, record2, trailer4, sheet_t, O7}
use Rattle.canonical.specs.Canonical.{canonical_form}
use Rattle.demands.specs.SheetCalls as calls
use Rattle.demands.proofs.Demands.{demands}
use Rattle.demands.proofs.Exactly.{gives_exactly}

-- ---- the rows of switchbox's ByHand: 1 + i, 3 − i, 2 − i, −1 + i, −32 − i, 31 + i

mixed-rows : rows_allowed mixed ≡ true
unfolding rows_allowed
mixed-rows = refl

mixed-allowed : AllowedRows rows_kind mixed
unfolding rows_of_kind
mixed-allowed = (omega arith, mixed-rows)

-- right–bottom, −32 − i, is that remainder at every width
remainder : (w i : ℕ) → i < w → (switch_track rows_kind mixed w right bottom i + i + 32) % w ≡ 0 % w
unfolding takes adds place
remainder w i l = (demands.boxes.row_remainder mixed w right bottom i mixed-rows (omega arith) l).minus refl

-- undone from the other end, at every width
undone : (w i : ℕ) → i < w → switch_track rows_kind mixed w bottom right (switch_track rows_kind mixed w right bottom i) ≡ i
undone w i l = (demands.boxes.table_partners rows_kind mixed mixed-allowed w right bottom i (omega arith) (omega arith) l).1

-- the rows of Wilton, given as kind 3, act as kind 1
wilton : (w from to i : ℕ) → from < 4 → to < 4 → i < w → switch_track rows_kind (published 1) w from to i ≡ switch_track 1 [] w from to i
wilton w from to i h k l = demands.boxes.published_rows 1 [] (omega arith) w from to i h k l

-- the generator makes their table, and none of a sign of 2
made : (w i : ℕ) → i < w → table_track (generated mixed).table w right bottom i ≡ switch_track rows_kind mixed w right bottom i
unfolding rows_of_kind
made w i l = demands.boxes.generated_table rows_kind mixed mixed-allowed w right bottom i (omega arith) (omega arith) l

passed : (generated mixed).number ≡ 0
passed = (demands.boxes.generated_number mixed).1 mixed-rows

nothing : (generated (2 ∷ [])).table ≡ no_table
unfolding generated
nothing = (demands.boxes.generated_refused (2 ∷ []) (λ e. absurd (omega arith))).1

-- ---- sheet T with these rows on the 4 by 4 chip, in the inner box (1, 1): net 3, net 1, net 2

abbrev sheet_r : ℕ → ℕ → List ℕ → ℕ → List ℕ
sheet_r kind w rows c =
    record2 3 3 17 0 ++ record2 1 3 4 0 ++ record2 2 4 c 0 ++ (0 ∷ 0 ∷ 0x0C ∷ 0 ∷ 0x18 ∷ 0 ∷ []) ++ rows ++ trailer4 kind w 3 0x24 0x42

abbrev sheet3 : List ℕ
sheet3 = sheet_r 3 3 mixed 17

abbrev T : ℕ → List ℕ → Result
T x ys = record { number = x; others = ys; output = 2 ∷ 0 ∷ 0 ∷ 1 ∷ 0 ∷ 1 ∷ 170 ∷ [] }

abbrev no : ℕ → List ℕ → Result
no x ys = record { number = x; others = ys; output = [] }

-- Net 1 takes 3.0 and 4.1, net 2 takes 4.0 and 17.1, net 3 finds 3.0 and 17.1 held and takes 3.2 and 17.0: 5 trials. At width 2 there is none,
-- after 10 trials. With net 2 unplaced before, Refit's first round makes 5 trials. 18 stands before 6 (there is no channel 24); a kind 3
-- without rows, and a kind 0 with them, get 5.
abbrev rows_cases : List (Case × Result)
rows_cases =
    (call route (lent sheet3 [] [] 5 O7), T 0 (3 ∷ 5 ∷ 0 ∷ [])) ∷
    (call least (lent sheet3 [] [] 15 O7), T 0 (3 ∷ 15 ∷ 0 ∷ [])) ∷
    (call refit (lent sheet3 [] (2 ∷ 0 ∷ 0 ∷ 1 ∷ 255 ∷ 255 ∷ []) 5 O7), T 0 (3 ∷ 5 ∷ 0 ∷ [])) ∷
    (check sheet3 [] (2 ∷ 0 ∷ 0 ∷ 1 ∷ 0 ∷ 1 ∷ []), no 0 []) ∷
    (check sheet3 [] (2 ∷ 0 ∷ 0 ∷ 1 ∷ 0 ∷ 2 ∷ []), no 12 []) ∷
    (read sheet3, no 0 (3 ∷ 6 ∷ [])) ∷
    (read (sheet_r 3 3 (0 ∷ 32 ∷ 0 ∷ 0 ∷ 0 ∷ 0 ∷ 0 ∷ 0 ∷ 0 ∷ 0 ∷ 0 ∷ 0 ∷ []) 24), no 18 (0 ∷ 0 ∷ [])) ∷
    (read (sheet_r 3 3 (0 ∷ 0 ∷ 0 ∷ 0 ∷ 0 ∷ 0 ∷ 0 ∷ 0 ∷ 0 ∷ 0 ∷ 2 ∷ 0 ∷ []) 17), no 18 (0 ∷ 0 ∷ [])) ∷
    (read (sheet_t 3 3 0), no 5 (0 ∷ 0 ∷ [])) ∷
    (read (sheet_r 3 3 mixed 24), no 6 (0 ∷ 0 ∷ [])) ∷
    (read (sheet_r 0 3 mixed 17), no 5 (0 ∷ 0 ∷ [])) ∷
    []

rows-cases : map (λ (x : Case × Result). result_of x.0) rows_cases ≡ map (λ (x : Case × Result). x.1) rows_cases
unfolding result_of trailer_of rows_of u16_at net_of record_bytes record_part meeting tracks_of memb place lowest
rows-cases = refl

-- 18 by its meaning: of the last column pair the sign is 2
abbrev sign2 : List ℕ
sign2 = sheet_r 3 3 (0 ∷ 0 ∷ 0 ∷ 0 ∷ 0 ∷ 0 ∷ 0 ∷ 0 ∷ 0 ∷ 0 ∷ 2 ∷ 0 ∷ []) 17

parameter : BadParameter sign2
unfolding memb read_of refusal meeting u16_at trailer_of rows_of net_of record_bytes
parameter = (((gives_exactly.numbers calls.read (lent sign2 [] [] 0 [])).given 18 refl).0 refl).1.1.1.1.1

-- ---- relistings

accepted-3 : WellFormed sheet3
unfolding refusal meeting u16_at trailer_of rows_of net_of record_bytes
accepted-3 = refl

-- the standard form is another listing, of the same kind 3
relisted-3 : Equivalent sheet3 (canonical_form sheet3)
relisted-3 = (demands.standard.relisting sheet3 accepted-3).0

-- −1 and 2 act alike at width 3, and are not the same kind
abbrev other : List ℕ
other = sheet_r 3 3 (0 ∷ 1 ∷ 1 ∷ 3 ∷ 1 ∷ 2 ∷ 0 ∷ 2 ∷ 1 ∷ 224 ∷ 0 ∷ 31 ∷ []) 17

other-kind : SameKind sheet3 other → ⊥
unfolding trailer_of rows_of
other-kind K = omega (arith, ap (λ (r : List ℕ). get_or r 7 0) K.rows)
