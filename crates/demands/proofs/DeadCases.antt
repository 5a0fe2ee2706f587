-- Inputs that meet the hypotheses about dead wires (02, M-105). Assumes nothing.
use mathlib.Core.Path.{◌≡◌, refl, sym, ap, ◌∙◌}
use mathlib.Core.Logic.{◌⊎◌, inl, inr}
use Prim.Native.Nat.{ℕ, ◌<◌}
use native.Mathlib.Omega.{arith}
use mathlib.Core.List.{List, [], ◌∷◌}
use mathlib.Core.Bool.{Bool, true, false, not, ◌&&◌, ◌||◌, true≢false}
use lib.Dec.{ltb, eqb}
use lib.ListN.{length}
use borrow.Author.Tests.{ne_eqb}
use Rattle.bounded.specs.Bounded.{any_below}
use Rattle.backtracking.specs.Ends.{trials_of}
use Rattle.bounded.specs.Lists.{memb, place, lowest, every_in}
use Rattle.grid.specs.Grid.{same_wire, wire, meeting}
use Rattle.net.specs.Net.{u16_at, net_of}
use Rattle.netlist.specs.Netlist.{trailer_of, record_part, record_bytes, nets, refusal, connected_on, channels_of}
use Rattle.net.specs.Nets.{entry_count, net_in}
use Rattle.defects.specs.Defects.{item_at, is_dead, KnownItems, AcceptedList, SameBelow}
use Rattle.defects.specs.Facts.{list_number}
use Rattle.assignment.specs.Assignment.{tracks_of, track_at, LegalAt, broken_wire}
use Rattle.assignment.specs.Check.{check_of}
use Rattle.assignment.specs.Meanings.{OnBroken}
use Rattle.assignment.specs.Board.{board_of}
use Rattle.netsearch.specs.HomeTrack.{wires_from}
use Rattle.netsearch.specs.PlainSearch.{density, over_capacity, held, fits}
use Rattle.routing.specs.MarkedCases.{O7}
use Rattle.netsearch.specs.declared.Search.TheVariants.{Plain}
use Rattle.routing.specs.declared.Call.{Call}
use Rattle.routing.specs.declared.Call.TheVariants.{Refit}
use Rattle.routing.specs.Outcomes.{least, lent, answer_of, output_of, search_at}
use Rattle.routing.specs.Results.{PartlyLegalFor, assignment_in, last_width}
use Rattle.routing.specs.declared.Answer.{Answer}
use Rattle.routing.proofs.DeadExamples.{T, level}
use Rattle.routing.proofs.Example.{sheet_v, dead_v, dead_v2, same_dead}
use Rattle.routing.specs.Remove.{remove_number, remove_output}
use Rattle.demands.specs.SheetCalls.{search}
use Rattle.demands.proofs.Demands.{demands}
use Rattle.demands.proofs.Exactly.{gives_exactly}

-- ---- a net on a dead wire

-- Remove takes net 2 off the dead wire: so it is freed before the last Refit of routing's DeadExamples.antt
freed : (remove_number (lent T [] level 0 O7) 2 ≡ 0) × (remove_output (lent T [] level 0 O7) 2 ≡ 0 ∷ 0 ∷ 255 ∷ 255 ∷ 2 ∷ 2 ∷ 170 ∷ [])
unfolding remove_output remove_number trailer_of u16_at net_of record_bytes record_part meeting tracks_of memb
freed = (refl, refl)

-- ---- two lists with the same wires below 3: (1, 1), and besides (5, 3), of T's chip

abbrev near : List ℕ
near = 1 ∷ 0 ∷ 1 ∷ []

abbrev far : List ℕ
far = 5 ∷ 0 ∷ 3 ∷ 1 ∷ 0 ∷ 1 ∷ []

accepted-near : AcceptedList 7 near
unfolding list_number item_at u16_at
accepted-near = (demands.dead_wires.list_exactly 7 near).zero.0 refl

accepted-far : AcceptedList 7 far
unfolding list_number item_at u16_at
accepted-far = (demands.dead_wires.list_exactly 7 far).zero.0 refl

below : SameBelow 3 near far
unfolding is_dead any_below item_at u16_at
below v l = at (eqb v.channel 5) (eqb v.track 3) (ne_eqb v.track 3 (λ e. omega arith))
  where
    at : (a b : Bool) → b ≡ false → (false || same_wire v (wire 1 1)) ≡ (false || a && b || same_wire v (wire 1 1))
    at true true e = absurd (true≢false e)
    at true false e = refl
    at false b e = refl

-- Refit's answer and whole output are those of the shorter list, and so is Check's number
same-refit : (answer_of Refit (lent T near (0 ∷ 0 ∷ 255 ∷ 255 ∷ 2 ∷ 2 ∷ []) 15 O7) ≡ answer_of Refit (lent T far (0 ∷ 0 ∷ 255 ∷ 255 ∷ 2 ∷ 2 ∷ []) 15 O7))
    × (output_of Refit (lent T near (0 ∷ 0 ∷ 255 ∷ 255 ∷ 2 ∷ 2 ∷ []) 15 O7) ≡ output_of Refit (lent T far (0 ∷ 0 ∷ 255 ∷ 255 ∷ 2 ∷ 2 ∷ []) 15 O7))
unfolding last_width trailer_of
same-refit = demands.dead_wires.same_dead (lent T near (0 ∷ 0 ∷ 255 ∷ 255 ∷ 2 ∷ 2 ∷ []) 15 O7) far accepted-near accepted-far Refit below

same_check : check_of T near level ≡ check_of T far level
unfolding trailer_of
same_check = demands.dead_wires.check_same_dead T near far level accepted-near accepted-far below

-- at width 4 they differ: 5.3 is whole in one alone
differ-4 : SameBelow 4 near far → ⊥
unfolding is_dead any_below item_at u16_at
differ-4 s = true≢false (sym (s (wire 5 3) (omega arith)))

-- ---- lists that are refused, in other orders, and beside tickets

-- a list that is refused, by its meaning: channel 7 of a chip of 7 channels
unknown-7 : KnownItems 7 (7 ∷ 0 ∷ 0 ∷ []) → ⊥
unfolding list_number item_at u16_at
unknown-7 = (demands.dead_wires.list_exactly 7 (7 ∷ 0 ∷ 0 ∷ [])).list.0 refl

-- the list of `relisting` in the other order, of a refused sheet too
other-order : (c : Call) (budget : ℕ) → answer_of c (lent [] dead_v [] budget O7) ≡ answer_of c (lent [] dead_v2 [] budget O7)
other-order c budget = (demands.dead_wires.any_order (lent [] dead_v [] budget O7) dead_v2 same_dead c).0

check-order : (b : List ℕ) → check_of sheet_v dead_v b ≡ check_of sheet_v dead_v2 b
check-order b = demands.dead_wires.check_any_order sheet_v dead_v dead_v2 b same_dead

-- `level` is on a dead wire of `near`; what Remove writes of it with net 1 taken out still is, and so `level` was
taken-1 : (remove_number (lent T [] level 0 O7) 1 ≡ 0)
    × (broken_wire true (is_dead near) (nets T) (assignment_in (lent T [] level 0 O7) (remove_output (lent T [] level 0 O7) 1)) ≡ true)
unfolding remove_output remove_number broken_wire is_dead item_at nets entry_count trailer_of u16_at net_of record_bytes record_part meeting tracks_of memb
taken-1 = (refl, refl)

broken-level : broken_wire true (is_dead near) (nets T) level ≡ true
broken-level = demands.remove.broken (lent T [] level 0 O7) 1 near taken-1.0 taken-1.1

-- Least finds width 3 on T under both lists, whatever W is, in 6 trials, all at width 3; with 5 it is spent there
least-near : (answer_of least (lent T near [] 6 O7) ≡ record { number = 0; width = 3; trials = 6; moved = 0 })
    × (answer_of least (lent T near [] 5 O7) ≡ record { number = 16; width = 0; trials = 5; moved = 0 })
unfolding answer_of trailer_of u16_at net_of record_bytes record_part meeting memb place lowest item_at
least-near = (refl, refl)

least-both : (budget : ℕ) → (budget ≡ 5) ⊎ (budget ≡ 6) → answer_of least (lent T near [] budget O7) ≡ answer_of least (lent T far [] budget O7)
unfolding last_width trailer_of u16_at net_of record_bytes record_part meeting memb place lowest item_at
least-both budget (inl e) = rw e (demands.dead_wires.same_dead (lent T near [] 5 O7) far accepted-near accepted-far least below).0
least-both budget (inr e) = rw e (demands.dead_wires.same_dead (lent T near [] 6 O7) far accepted-near accepted-far least below).0

-- the width in use is 3 in both, by the answer
stops-3 : (last_width least (lent T near [] 6 O7) ≡ 3) × (5 < trials_of (search_at Plain (lent T near [] 5 O7)) (last_width least (lent T near [] 5 O7)) 1)
stops-3 = (
  (demands.dead_wires.least_stops Plain (lent T near [] 6 O7)).found (ap (λ (a : Answer). a.number) least-near.0) ∙ ap (λ (a : Answer). a.width) least-near.0,
  (demands.dead_wires.least_stops Plain (lent T near [] 5 O7)).spent (ap (λ (a : Answer). a.number) least-near.1),
)

-- channel 7 of a chip of 7 channels gets 19 from every call
refused-7 : (c : Call) → (answer_of c (lent T (7 ∷ 0 ∷ 0 ∷ []) level 0 O7)).number ≡ 19
unfolding refusal trailer_of u16_at net_of record_bytes record_part meeting
refused-7 c = (demands.dead_wires.call_list c (lent T (7 ∷ 0 ∷ 0 ∷ []) level 0 O7)).list.1 (refl, unknown-7)

checked-7 : check_of T (7 ∷ 0 ∷ 0 ∷ []) level ≡ 19
unfolding refusal trailer_of u16_at net_of record_bytes record_part meeting
checked-7 = (demands.dead_wires.check_list T (7 ∷ 0 ∷ 0 ∷ []) level).list.1 (refl, unknown-7)

-- Refit reads `level` with net 2 taken out: it is right for its placed nets without the wires of `near`
refitted : PartlyLegalFor (lent T near (0 ∷ 0 ∷ 255 ∷ 255 ∷ 2 ∷ 2 ∷ []) 15 O7) (0 ∷ 0 ∷ 255 ∷ 255 ∷ 2 ∷ 2 ∷ [])
unfolding answer_of refusal trailer_of u16_at net_of record_bytes record_part meeting tracks_of memb place lowest item_at
refitted = (demands.dead_wires.refit_ticket (lent T near (0 ∷ 0 ∷ 255 ∷ 255 ∷ 2 ∷ 2 ∷ []) 15 O7) refl accepted-near).0 refl

-- what it writes is right without the wires of `near`, and so without those of `far`
abbrev moved : List ℕ
moved = 0 ∷ 0 ∷ 2 ∷ 2 ∷ 1 ∷ 1 ∷ []

legal-far : LegalAt T far 3 moved
unfolding check_of trailer_of u16_at net_of record_bytes record_part meeting tracks_of item_at
legal-far = (demands.dead_wires.legal_same_dead T near far 3 moved below).0 (demands.demand2.check_legal T near moved refl).2

-- Refit gives `level` as it is 21: an entry of a placed net is on a broken wire
on-broken : OnBroken true (is_dead near) (nets T) level
unfolding memb answer_of trailer_of u16_at net_of record_bytes record_part meeting tracks_of place lowest item_at
on-broken =
    (((gives_exactly.numbers (search Refit) (lent T near level 0 O7)).given 21 refl).0 refl).1.1.1.1.1.1.1.1.1.1.1.1.1.1.1

-- ---- the empty list, on T

empty-7 : list_number 7 [] ≡ 0
empty-7 = demands.dead_wires.empty_list 7

unbroken : broken_wire true (is_dead []) (nets T) level ≡ false
unbroken = demands.dead_wires.empty_broken true (nets T) level

-- the last byte of net 3 is below 3
last-track : track_at (nets T) level 2 1 < 3
unfolding check_of nets trailer_of u16_at net_of record_bytes record_part meeting tracks_of
last-track = ((demands.dead_wires.empty_legal T 3 level).0 (demands.demand2.check_legal T [] level refl).2).1 2 1 (omega arith) (omega arith)

free : (p : List ℕ) (t : ℕ)
    → fits (board_of T []) 3 (nets T) p t
    ≡ every_in (λ v. not (held (connected_on T 3) (nets T) p v)) (wires_from (connected_on T 3) (net_in (nets T) (length p)) t)
free p t = demands.dead_wires.empty_fits (board_of T []) 3 (nets T) p t

loads : over_capacity (board_of T []) 3 (nets T) ≡ any_below (channels_of T) (λ c. ltb 3 (density (nets T) c))
loads = demands.dead_wires.empty_over (board_of T []) 3 (nets T)

-- Remove with `near` beside it, which it is not lent
no-list : remove_number (lent T [] level 0 O7) 2 ≡ remove_number (lent T near level 0 O7) 2
no-list = (demands.remove.no_list (lent T [] level 0 O7) 2 near).0
