-- Fields about the chip and demands 1 to 3 on inputs that meet their hypotheses: on a 3 by 2 chip, on sheet T (01 "Sheets to try") and on the two
-- sheets of Example. Assumes nothing.
use mathlib.Core.Path.{◌≡◌, refl, ap}
use mathlib.Core.Logic.{◌≢◌, inl, inr}
use Prim.Native.Nat.{ℕ, ◌-◌, ◌≤◌, ◌<◌}
use native.Mathlib.Omega.{arith}
use mathlib.Core.List.{List, [], ◌∷◌, map}
use mathlib.Core.Bool.{true, false}
use lib.ListN.{get_or}
use Rattle.bounded.specs.Lists.{memb, place, lowest}
use Rattle.backtracking.specs.Budget.{got, nothing, under_budget}
use Rattle.grid.specs.declared.Grid.{Grid}
use Rattle.grid.specs.Facts.{Sized}
use Rattle.grid.specs.Grid.{left, top, right, bottom, meeting, first_end, second_end, Numbered, At}
use Rattle.numbers.specs.Numbers.{InTableOrder}
use Rattle.numbers.specs.Meanings.{NoneApplies}
use Rattle.switchbox.specs.SwitchBox.{connected}
use Rattle.net.specs.Net.{u16_at, net_of}
use Rattle.net.specs.Nets.{entry_count}
use Rattle.netlist.specs.Netlist.{trailer_of, connected_on, record_part, record_bytes, nets, sheet_conditions, refusal}
use Rattle.netlist.specs.Meanings.{sheet_meanings}
use Rattle.reader.specs.Read.{read_of, record_of}
use Rattle.defects.specs.Defects.{is_dead}
use Rattle.defects.proofs.ListLaws.{same_items-below}
use Rattle.assignment.specs.Assignment.{tracks_of}
use Rattle.assignment.specs.Check.{check_conditions, check_of}
use Rattle.assignment.specs.Meanings.{OpenJoint, SharedWire}
use Rattle.netsearch.specs.HomeTrack.{byte_of}
use Rattle.netsearch.specs.PlainSearch.{plain_search, least_search}
use Rattle.netsearch.specs.Refit.{refit_search}
use Rattle.netsearch.specs.declared.Search.TheVariants.{Plain}
use Rattle.routing.specs.Equivalent.{SameLegal}
use Rattle.routing.specs.MarkedCases.{Case, Result, result_of, marked_cases, sheet_t, O7}
use Rattle.routing.specs.Outcomes.{route, refit, Inputs, lent, answer_of, conditions, search_at, remove_conditions, old_byte, board_in, nets_in}
use Rattle.routing.specs.declared.Call.{Call}
use Rattle.routing.specs.Results.{LegalFor, FirstLegal, FewestMoved, homes_in}
use Rattle.routing.proofs.Example.{same_dead, lent_v, lent_v2, relisting, legal-V}
use Rattle.routing.proofs.ExampleCases.{on_t, accepted-T, straight, swapped, legal-straight, legal-swapped, first, placed, fewest, search-needs, widths-need, rounds-need}
use Rattle.canonical.specs.Standard.{standard_conditions}
use Rattle.demands.specs.SheetCalls.{read, check, search, remove, standard}
use Rattle.demands.proofs.Demands.{demands}
use Rattle.demands.proofs.Exactly.{gives_exactly}

-- ---- the chip

abbrev grid : Grid
grid = record { cols = 3; rows = 2 }

sized : Sized grid
sized = record { cols_low = omega arith; cols_high = omega arith; rows_low = omega arith; rows_high = omega arith }

-- channel 1 runs from box 1 to box 2
right-1 : (first_end grid 1 ≡ record { at = 1; side = right }) × (second_end grid 1 ≡ record { at = 2; side = left })
right-1 = demands.chip.channel_right_ends grid 1 0 (omega arith) (omega arith)

-- channel 5 runs up from box 1 to box 4
up-5 : (first_end grid 5 ≡ record { at = 1; side = top }) × (second_end grid 5 ≡ record { at = 4; side = bottom })
up-5 = demands.chip.channel_up_ends grid 1 0 (omega arith) (omega arith)

-- channel 6 is the last
last-6 : Numbered grid 6
last-6 = (demands.chip.channel_numbers grid sized 6).0 (omega arith)

-- channels 0 and 1 meet in box 1, and there alone
meet-there : (x : ℕ) → At grid 0 x → At grid 1 x → x ≡ 1
unfolding first_end second_end
meet-there x a b = demands.chip.meet_once grid sized 0 1 x 1 (λ e. omega arith) a b (inr refl) (inl refl)

-- ---- the numbers of every call stand in the order of the table

orders : (c : Call) (i : Inputs) (x : ℕ)
    → InTableOrder (sheet_conditions i.sheet) × InTableOrder (check_conditions false i.sheet i.dead i.old)
    × InTableOrder (conditions c i) × InTableOrder (remove_conditions i x) × InTableOrder (standard_conditions i.sheet i.out)
orders c i x = (
  demands.demand1.order read i,
  demands.demand1.order check i,
  demands.demand1.order (search c) i,
  demands.demand1.order (remove x) i,
  demands.demand1.order standard i,
)

-- ---- when a number comes, on T at W 3

-- Check's 12 of a ticket that gives net 1 the tracks 0 and 1: some joint is open
abbrev turned : List ℕ
turned = 0 ∷ 1 ∷ 1 ∷ 1 ∷ 2 ∷ 2 ∷ []

open-12 : OpenJoint false (connected_on (sheet_t 0 3 0) 3) (nets (sheet_t 0 3 0)) turned
unfolding memb check_of trailer_of u16_at net_of record_bytes record_part meeting tracks_of
open-12 =
    (((gives_exactly.numbers check (lent (sheet_t 0 3 0) [] turned 0 [])).given 12 refl).0 refl
    ).1.1.1.1.1.1.1.1.1.1.1.1.1.1

-- Refit's 13 of an old ticket in which nets 1 and 2 hold one wire; Route's 14 with an output of one byte
clash-13 : SharedWire true (nets (sheet_t 0 3 0)) (0 ∷ 0 ∷ 0 ∷ 0 ∷ 255 ∷ 255 ∷ [])
unfolding memb answer_of trailer_of u16_at net_of record_bytes record_part meeting tracks_of place lowest
clash-13 =
    (((gives_exactly.numbers (search refit) (lent (sheet_t 0 3 0) [] (0 ∷ 0 ∷ 0 ∷ 0 ∷ 255 ∷ 255 ∷ []) 0 O7)).given 13 refl).0 refl
    ).1.1.1.1.1.1.1.1.1.1.1.1.1.1.1.1

short-14 : 1 < entry_count (nets (sheet_t 0 3 0))
unfolding memb answer_of trailer_of u16_at net_of record_bytes record_part meeting tracks_of place lowest
short-14 =
    (((gives_exactly.numbers (search route) (lent (sheet_t 0 3 0) [] [] 0 (0 ∷ []))).given 14 refl).0 refl
    ).1.1.1.1.1.1.1.1.1.1.1.1

-- and back: none of Read's numbers applies to T, so it gives 0, and the other way round
none : NoneApplies (sheet_meanings (sheet_t 0 3 0))
unfolding refusal trailer_of u16_at net_of record_bytes record_part meeting
none = (gives_exactly.numbers read (lent (sheet_t 0 3 0) [] [] 0 [])).ends.0 ((gives_exactly.reads (sheet_t 0 3 0)).accepted.1 refl)

back-again : (read_of (sheet_t 0 3 0)).number ≡ 0
back-again = (gives_exactly.numbers read (lent (sheet_t 0 3 0) [] [] 0 [])).ends.1 none

-- T has 3 nets and 6 entries; its record 2 is not empty, and there is no record 3
counts : ((read_of (sheet_t 0 3 0)).nets ≡ 3) × ((read_of (sheet_t 0 3 0)).entries ≡ 6)
unfolding nets entry_count trailer_of u16_at net_of record_bytes record_part
counts = (gives_exactly.reads (sheet_t 0 3 0)).counts back-again

last-record : record_of (sheet_t 0 3 0) 2 ≡ record_bytes (sheet_t 0 3 0) 2
unfolding trailer_of u16_at
last-record = (gives_exactly.records (sheet_t 0 3 0) 2).own ((gives_exactly.reads (sheet_t 0 3 0)).accepted.0 back-again) (omega arith)

no_record : record_of (sheet_t 0 3 0) 3 ≡ []
unfolding trailer_of u16_at
no_record = (gives_exactly.records (sheet_t 0 3 0) 3).empty.1 (inr (omega arith))

-- ---- legal assignments of T at W 3

-- two that differ, so that their home tracks do
homes-differ : homes_in (on_t 3 0) straight ≢ homes_in (on_t 3 0) swapped
homes-differ e =
    let z = ap (λ (b : List ℕ). get_or b 0 0) (demands.demand2.homes_fix (on_t 3 0) accepted-T 3 straight swapped legal-straight legal-swapped e) in
    omega arith

-- one of them alone is the first, and one the first of those that move the fewest
not_first : FirstLegal (on_t 3 6) 3 swapped → ⊥
not_first f =
    let z = ap (λ (b : List ℕ). get_or b 0 0) (demands.demand2.first_unique (on_t 3 6) accepted-T 3 straight swapped first f) in omega arith

not-fewest : FewestMoved placed 3 straight → ⊥
not-fewest f =
    let z = ap (λ (b : List ℕ). get_or b 0 0) (demands.demand2.fewest_unique placed accepted-T 3 swapped straight fewest f) in omega arith

-- ---- relistings: the searches, the rounds and the legal assignments

search-alike : (w : ℕ) → search_at Plain (lent_v 0) w ≡ search_at Plain (lent_v2 0) w
search-alike w = demands.demand3.search_relisted (lent_v 0) (lent_v2 0) (relisting refit 0).sheets Plain w (same_items-below same_dead w)

rounds-alike : (w : ℕ) → refit_search (old_byte (lent_v 0)) (board_in (lent_v 0)) w (nets_in (lent_v 0)) ≡ refit_search (old_byte (lent_v2 0)) (board_in (lent_v2 0)) w (nets_in (lent_v2 0))
rounds-alike w =
    let R = relisting refit 0 in demands.demand3.rounds_relisted (lent_v 0) (lent_v2 0) R.sheets R.old.same w (same_items-below same_dead w)

legal-alike : (w : ℕ) → SameLegal (lent_v 0) (lent_v2 0) w
legal-alike w = demands.demand3.legal_relisted (lent_v 0) (lent_v2 0) (relisting refit 0).sheets w (same_items-below same_dead w)

legal-V2 : (b : List ℕ) × LegalFor (lent_v2 0) 3 b
legal-V2 = let r = (legal-alike 3).there (2 ∷ 2 ∷ 1 ∷ 1 ∷ 0 ∷ []) legal-V in (r.0, r.1)

-- ---- budgets: with more than they need, the plain search, Least's widths and Refit's rounds have as much more left

search-stays : (larger : ℕ) → 10 ≤ larger → under_budget (search_at Plain (on_t 2 0) 2) larger ≡ nothing (larger - 10)
unfolding plain_search nets connected trailer_of u16_at net_of record_bytes record_part meeting memb place lowest is_dead
search-stays larger more =
    (demands.demand3.search_budget (search_at Plain (on_t 2 0) 2) 10 larger more
    (λ e. let z : ◌≡◌ {A = ℕ} 0 1 = cc (search-needs.1, e) in omega arith)).1

widths-stay : (larger : ℕ) → 16 ≤ larger → under_budget (least_search Plain (board_in (on_t 2 0)) (nets_in (on_t 2 0))) larger ≡ got (3, 0 ∷ 1 ∷ 2 ∷ []) (larger - 16)
unfolding least_search nets connected trailer_of u16_at net_of record_bytes record_part meeting memb place lowest is_dead
widths-stay larger more =
    (demands.demand3.search_budget (least_search Plain (board_in (on_t 2 0)) (nets_in (on_t 2 0))) 16 larger more
    (λ e. let z : ◌≡◌ {A = ℕ} 0 1 = cc (widths-need.1, e) in omega arith)).1

rounds-stay : (larger : ℕ) → 10 ≤ larger → under_budget (refit_search (old_byte (on_t 2 0)) (board_in (on_t 2 0)) 2 (nets_in (on_t 2 0))) larger ≡ nothing (larger - 10)
unfolding refit_search byte_of nets connected trailer_of u16_at net_of record_bytes record_part meeting memb place lowest is_dead
rounds-stay larger more =
    (demands.demand3.search_budget (refit_search (old_byte (on_t 2 0)) (board_in (on_t 2 0)) 2 (nets_in (on_t 2 0))) 10 larger more
    (λ e. let z : ◌≡◌ {A = ℕ} 0 1 = cc (rounds-need.1, e) in omega arith)).1

-- ---- the marked cases

cases : map (λ (x : Case × Result). result_of x.0) marked_cases ≡ map (λ (x : Case × Result). x.1) marked_cases
cases = demands.cases.marked
