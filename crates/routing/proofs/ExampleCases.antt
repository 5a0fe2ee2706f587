-- The hypotheses of the other promises can be met: on sheet T (01 "Sheets to try"), and for Least's refusal on 33 nets through one channel.
-- Assumes nothing.
use mathlib.Core.Path.{◌≡◌, refl}
use mathlib.Core.Logic.{◌≢◌}
use Prim.Native.Nat.{ℕ, zero, suc, ◌*◌, ◌/◌, ◌%◌, ◌≤◌}
use native.Mathlib.Omega.{arith}
use mathlib.Core.List.{List, [], ◌∷◌, ◌++◌}
use Rattle.bounded.specs.Lists.{memb, place, lowest}
use Rattle.backtracking.specs.Budget.{got, nothing, spent, under_budget}
use Rattle.grid.specs.Grid.{meeting}
use Rattle.switchbox.specs.SwitchBox.{connected}
use Rattle.net.specs.Net.{u16_at, net_of}
use Rattle.netlist.specs.Netlist.{trailer_of, rows_of, record_part, record_bytes, nets, refusal, WellFormed}
use Rattle.defects.specs.Defects.{is_dead}
use Rattle.defects.proofs.ListLaws.{accepted-none}
use Rattle.assignment.specs.Assignment.{tracks_of}
use Rattle.assignment.specs.Check.{check_of}
use Rattle.assignment.proofs.CheckLaws.{check-legal, legal-check}
use Rattle.netsearch.specs.HomeTrack.{byte_of}
use Rattle.netsearch.specs.declared.Search.TheVariants.{Plain}
use Rattle.netsearch.specs.PlainSearch.{plain_search, least_search}
use Rattle.netsearch.specs.Refit.{refit_search}
use Rattle.routing.specs.Equivalent.{SameButWidth}
use Rattle.routing.specs.MarkedCases.{record1, sheet_t, O7}
use Rattle.routing.specs.Outcomes.{least, Inputs, lent, answer_of, output_of, board_in, nets_in, old_byte}
use Rattle.routing.specs.Results.{LegalFor, Unroutable, FirstLegal, LeastWidth, FewestMoved}
use Rattle.routing.proofs.BudgetTheorems.{call-unmoved, call-budget}
use Rattle.routing.specs.declared.Call.{Call}
use Rattle.routing.specs.declared.Call.TheVariants.{Route, Least, Refit}
use Rattle.routing.proofs.FirstTheorems.{route-first, least_first, refit-fewest}
use Rattle.routing.proofs.UnroutableTheorems.{route-unroutable, least-unroutable, refit-unroutable}
use Rattle.routing.proofs.WidthTheorems.{least-any-width}

-- T with kind 0, which "has load 2 and needs 3", and no net placed before
abbrev pub on_t : ℕ → ℕ → Inputs
on_t w budget = lent (sheet_t 0 w 0) [] (255 ∷ 255 ∷ 255 ∷ 255 ∷ 255 ∷ 255 ∷ []) budget O7

pub accepted-T : WellFormed (sheet_t 0 3 0)
unfolding refusal trailer_of u16_at net_of record_bytes record_part meeting
accepted-T = refl

-- ---- legal assignments

-- two at W 3
abbrev pub straight : List ℕ
straight = 0 ∷ 0 ∷ 1 ∷ 1 ∷ 2 ∷ 2 ∷ []

abbrev pub swapped : List ℕ
swapped = 1 ∷ 1 ∷ 0 ∷ 0 ∷ 2 ∷ 2 ∷ []

checked : (check_of (sheet_t 0 3 0) [] straight ≡ 0) × (check_of (sheet_t 0 3 0) [] swapped ≡ 0)
unfolding check_of trailer_of u16_at net_of record_bytes record_part meeting tracks_of
checked = (refl, refl)

pub legal-straight : LegalFor (on_t 3 0) 3 straight
unfolding trailer_of
legal-straight = (check-legal (sheet_t 0 3 0) [] straight checked.0).2

pub legal-swapped : LegalFor (on_t 3 0) 3 swapped
unfolding trailer_of
legal-swapped = (check-legal (sheet_t 0 3 0) [] swapped checked.1).2

check-passes : check_of (sheet_t 0 3 0) [] swapped ≡ 0
unfolding trailer_of
check-passes = legal-check (sheet_t 0 3 0) [] swapped accepted-T (accepted-none 7) legal-swapped

-- ---- what the calls find

pub first : FirstLegal (on_t 3 6) 3 straight
unfolding answer_of output_of trailer_of u16_at net_of record_bytes record_part meeting memb place lowest
first = (route-first (on_t 3 6) Plain refl).1

least_width : LeastWidth (on_t 2 16) 3
unfolding answer_of trailer_of u16_at net_of record_bytes record_part meeting memb place lowest
least_width = (least_first (on_t 2 16) Plain refl).0

-- nets 1 and 2 had the home tracks 1 and 0: both stay, though the assignment is not the first
abbrev pub placed : Inputs
placed = lent (sheet_t 0 3 0) [] (1 ∷ 1 ∷ 0 ∷ 0 ∷ 255 ∷ 255 ∷ []) 10 O7

pub fewest : FewestMoved placed 3 swapped
unfolding answer_of output_of trailer_of u16_at net_of record_bytes record_part meeting tracks_of memb place lowest
fewest = (refit-fewest placed refl).1

-- ---- unroutable

unroutable : Unroutable (on_t 2 10) 2
unfolding answer_of trailer_of u16_at net_of record_bytes record_part meeting memb place lowest
unroutable = route-unroutable (on_t 2 10) Plain refl

unroutable-refit : Unroutable (on_t 2 10) 2
unfolding answer_of trailer_of u16_at net_of record_bytes record_part meeting tracks_of memb place lowest
unroutable-refit = refit-unroutable (on_t 2 10) refl

-- nets 1 to k with the one channel 0, their offsets, and an output of k bytes
abbrev records : ℕ → List ℕ
records zero = []
records (suc k) = records k ++ record1 (suc k) 0

abbrev offsets : ℕ → List ℕ
offsets zero = []
offsets (suc k) = offsets k ++ (8 * k % 256 ∷ 8 * k / 256 ∷ [])

abbrev bytes : ℕ → List ℕ
bytes zero = []
bytes (suc k) = 170 ∷ bytes k

-- 3 by 2, kind 0, W 1, 33 nets
abbrev crowded : Inputs
crowded = lent (records 33 ++ offsets 33 ++ (3 ∷ 2 ∷ 0 ∷ 1 ∷ 33 ∷ 0 ∷ 8 ∷ 1 ∷ 0x56 ∷ 1 ∷ 0x57 ∷ 0x48 ∷ [])) [] [] 0 (bytes 33)

unroutable-least : (w : ℕ) → 1 ≤ w → w ≤ 32 → Unroutable crowded w
unfolding answer_of trailer_of u16_at net_of record_bytes record_part meeting memb place lowest
unroutable-least = least-unroutable crowded Plain refl

-- ---- budgets: from 16 on each call has one answer and one output

not-spent : (c : Call) → (answer_of c (on_t 2 16)).number ≢ 16
unfolding answer_of trailer_of u16_at net_of record_bytes record_part meeting tracks_of memb place lowest
not-spent (Route Plain) = omega arith
not-spent (Least Plain) = omega arith
not-spent Refit = omega arith

stays : (c : Call) (larger : ℕ) → 16 ≤ larger
    → (answer_of c (on_t 2 larger) ≡ answer_of c (on_t 2 16)) × (output_of c (on_t 2 larger) ≡ output_of c (on_t 2 16))
stays c larger more = call-budget c (on_t 2 16) larger more (not-spent c)

-- the plain search, Least's widths and Refit's rounds themselves: they need 10, 16 and 10 trials
pub search-needs : (under_budget (plain_search Plain (board_in (on_t 2 0)) 2 (nets_in (on_t 2 0))) 9 ≡ spent) × (under_budget (plain_search Plain (board_in (on_t 2 0)) 2 (nets_in (on_t 2 0))) 10 ≡ nothing 0)
unfolding under_budget plain_search nets connected trailer_of u16_at net_of record_bytes record_part meeting memb place lowest is_dead
search-needs = (refl, refl)

pub widths-need : (under_budget (least_search Plain (board_in (on_t 2 0)) (nets_in (on_t 2 0))) 15 ≡ spent) × (under_budget (least_search Plain (board_in (on_t 2 0)) (nets_in (on_t 2 0))) 16 ≡ got (3, 0 ∷ 1 ∷ 2 ∷ []) 0)
unfolding under_budget least_search nets connected trailer_of u16_at net_of record_bytes record_part meeting memb place lowest is_dead
widths-need = (refl, refl)

pub rounds-need : (under_budget (refit_search (old_byte (on_t 2 0)) (board_in (on_t 2 0)) 2 (nets_in (on_t 2 0))) 9 ≡ spent) × (under_budget (refit_search (old_byte (on_t 2 0)) (board_in (on_t 2 0)) 2 (nets_in (on_t 2 0))) 10 ≡ nothing 0)
unfolding under_budget refit_search byte_of nets connected trailer_of u16_at net_of record_bytes record_part meeting memb place lowest is_dead
rounds-need = (refl, refl)

-- "moved is 0 outside Refit"
unmoved : (answer_of least (on_t 2 16)).moved ≡ 0
unmoved = call-unmoved least (on_t 2 16) (λ e. let z : ◌≡◌ {A = ℕ} 0 1 = cc in omega arith)

-- ---- sheets that differ in W have one answer of Least

same_but_width : SameButWidth (sheet_t 0 2 0) (sheet_t 0 3 0)
unfolding trailer_of rows_of u16_at
same_but_width = record { sized = refl; before = refl; fabric = refl; count = refl; directory = refl }

any_width : (budget : ℕ) → answer_of least (on_t 2 budget) ≡ answer_of least (on_t 3 budget)
unfolding refusal trailer_of u16_at net_of record_bytes record_part meeting
any_width budget = (least-any-width Plain (on_t 2 budget) (sheet_t 0 3 0) refl refl same_but_width).0
