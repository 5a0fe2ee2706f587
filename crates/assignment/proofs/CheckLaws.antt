-- Laws of the outcome of Check (specs/Check.antt). Assumes nothing.
-- legal-among: of fewer nets; legal-partly: of the routed ones. number-legal, legal-number: none of the numbers 10 to 13 and 21 applies exactly
-- where the assignment is legal among the nets that are looked at, over any nets and any board; number-partly, partly-number:
-- among the routed nets. number-unbroken: where no wire is broken. number_on: of a refused and of an accepted sheet, of an accepted list, and what 0 says.
-- check-legal, legal-check: Check answers 0 exactly where the sheet and the list are accepted and the assignment is legal at the
-- sheet's width.
use mathlib.Core.Path.{◌≡◌, refl, sym, subst, ap, ◌∙◌}
use mathlib.Core.Bool.{Bool, true, false, not, true≢false}
use mathlib.Core.List.{List, ◌∷◌, ◌++◌}
use Prim.Native.Nat.{ℕ, ◌<◌}
use native.Mathlib.Omega.{arith}
use native.Mathlib.Decide.{dec_lt}
use borrow.Author.Tests.{eqb-true, eq-eqb, lt-ltb, not-true, not-false}
use lib.ListN.{length, get_or}
use Rattle.bounded.specs.Bounded.{every}
use Rattle.bounded.proofs.BoundedLaws.{not-passed, every-at, at_every}
use Rattle.net.specs.Net.{Net, size}
use Rattle.netlist.specs.Netlist.{width_of, channels_of, nets, sheet_conditions, refusal, WellFormed}
use Rattle.numbers.specs.Numbers.{first_number, size_no, track_no, switch_no, broken_no, clash_no}
use Rattle.numbers.proofs.NumbersLaws.{condition_of, clear_none, clear-more, or_number, or_number-first, or_number-second, first_number-append, first_number-before, first_number-rest, first_number-both}
use Rattle.grid.proofs.WireLaws.{same_wire-true, true-same_wire}
use Rattle.net.specs.Nets.{entry_count, net_in}
use Rattle.nettracks.specs.NetTracks.{wire_at, in_range, connected_at, switched_at, switched, whole_wires, skipped}
use Rattle.nettracks.proofs.NetTracksLaws.{in_range-at, switched_at-first, switched_at-later, skipped-partial, skipped-whole}
use Rattle.defects.specs.Defects.{list_conditions, AcceptedList}
use Rattle.defects.specs.Facts.{list_number}
use Rattle.defects.proofs.ListLaws.{list-exactly}
use Rattle.assignment.specs.Board.{Board, board_of}
use Rattle.assignment.specs.Assignment.{tracks_of, wire_in, LegalAmong, LegalAt, PartlyLegalAt, wires_differ, no_wire_shared, no_conflict}
use Rattle.assignment.specs.Assignment.{wrong_size, track_out_of_range, not_switched, broken_wire, wire_conflict, track_conditions, clash_conditions, ticket_conditions}
use Rattle.assignment.specs.Check.{number_on, check_of}
use Rattle.assignment.specs.Facts.{assignment_number}
use Rattle.assignment.proofs.AssignmentLaws.{every_net-at, at-every_net, track_out_of_range-at, wrong_size-false, number-none, number-clear}
use Rattle.assignment.proofs.WireLaws.{no_conflict-looked, no_conflict-where}

-- ---- LegalAmong

-- of fewer nets, in an assignment where these have the same tracks
pub legal-among : {Chosen Chosen2 : ℕ → Type 0} {board : Board} {w : ℕ} {ns : List Net} {b : List ℕ} (d : List ℕ) → LegalAmong Chosen board w ns b
    → length d ≡ entry_count ns → ((k : ℕ) → k < length ns → Chosen2 k → Chosen k × (tracks_of ns d k ≡ tracks_of ns b k))
    → LegalAmong Chosen2 board w ns d
legal-among {board = board} {w = w} {ns = ns} d L whole f = record {
  whole = whole;
  below = λ k i h o l. let g = f k h o in subst (λ (ts : List ℕ). get_or ts i 0 < w) (sym g.1) (L.below k i h g.0 l);
  joined = λ k i h o z l.
      let g = f k h o in
      subst (λ (ts : List ℕ). get_or ts i 0 ≡ connected_at (board.partner w) (net_in ns k) ts i) (sym g.1) (L.joined k i h g.0 z l);
  unbroken = λ k i h o l. let g = f k h o in ap (λ (ts : List ℕ). board.broken (wire_at (net_in ns k) ts i)) g.1 ∙ L.unbroken k i h g.0 l;
  alone = λ k l i j hk hl ok ol hi hj e.
      let g = f k hk ok in
      let m = f l hl ol in
      L.alone k l i j hk hl g.0 m.0 hi hj
      (ap (λ (ts : List ℕ). wire_at (net_in ns k) ts i) (sym g.1) ∙ e ∙ ap (λ (ts : List ℕ). wire_at (net_in ns l) ts j) m.1);
}

-- ---- no_conflict

-- net k is looked at
abbrev pub Looked : Bool → List Net → List ℕ → ℕ → Type 0
Looked partial ns b k = skipped partial (tracks_of ns b k) ≡ false

module _ (partial : Bool) (ns : List Net) (b : List ℕ) (k l : ℕ) where
  -- entry i of net k and entry j of net l are one wire
  abbrev OneWire : ℕ → ℕ → Type 0
  OneWire i j = wire_in ns b k i ≡ wire_in ns b l j

  no_conflict-at : no_conflict partial ns b k l ≡ true → Looked partial ns b k → Looked partial ns b l
      → (i j : ℕ) → i < size (net_in ns k) → j < size (net_in ns l) → OneWire i j → ⊥
  unfolding no_wire_shared wires_differ
  no_conflict-at h ok ol i j p q o =
      let differs = wires_differ (net_in ns k) (tracks_of ns b k) (net_in ns l) (tracks_of ns b l) in
      let s = sym (no_conflict-looked partial ns b k l ok ol) ∙ h in
      let e = every-at _ (differs i) (every-at _ (λ m. every (size (net_in ns l)) (differs m)) s i p) j q in
      true≢false (sym (true-same_wire _ _ o) ∙ not-true _ e)

  at-no_conflict : (Looked partial ns b k → Looked partial ns b l
      → (i j : ℕ) → i < size (net_in ns k) → j < size (net_in ns l) → OneWire i j → ⊥)
      → no_conflict partial ns b k l ≡ true
  unfolding no_wire_shared wires_differ
  at-no_conflict h = no_conflict-where partial ns b k l (λ e f.
      at_every _ _ (λ i p. at_every _ _ (λ j q. not-passed _ (λ z. h e f i j p q (same_wire-true _ _ z)))))

-- ---- assignment_number

module _ (partial : Bool) (board : Board) (w : ℕ) (ns : List Net) (b : List ℕ) where
  pub number-legal : assignment_number partial board w ns b ≡ 0 → LegalAmong (Looked partial ns b) board w ns b
  unfolding wrong_size not_switched switched broken_wire whole_wires wire_conflict
  number-legal e = record {
    whole = eqb-true (length b) (entry_count ns) (not-false _ (clear size_no));
    below = λ k i h o l. in_range-at w (net_in ns k) (tracks_of ns b k) (track_out_of_range-at partial w ns b (clear track_no) k h o) i l;
    joined = λ k i h o z l. eqb-true _ _ (sym (switched_at-later (board.partner w) (net_in ns k) (tracks_of ns b k) i (omega arith)) ∙ connects k h o i l);
    unbroken = λ k i h o l.
        not-true _
        (every-at (size (net_in ns k)) _ (every_net-at partial (whole_wires board.broken) ns b (not-false _ (clear broken_no)) k h o) i l);
    alone = λ k l i j hk hl ok ol hi hj e. same k l i j hk hl ok ol hi hj e (dec_lt l k) (dec_lt k l);
  }
    where
      clear : (x : ℕ) → condition_of x (ticket_conditions partial board w ns b) ≡ false
      clear = number-clear partial board w ns b e

      connects : (k : ℕ) → k < length ns → Looked partial ns b k → (i : ℕ) → i < size (net_in ns k)
          → switched_at (board.partner w) (net_in ns k) (tracks_of ns b k) i ≡ true
      connects k h o i l =
          every-at (size (net_in ns k)) (switched_at (board.partner w) (net_in ns k) (tracks_of ns b k))
          (every_net-at partial (switched (board.partner w)) ns b (not-false _ (clear switch_no)) k h o)
          i l

      apart : (k l : ℕ) → k < length ns → l < k → no_conflict partial ns b k l ≡ true
      apart k l h m =
          every-at k (no_conflict partial ns b k)
          (every-at (length ns) (λ n. every n (no_conflict partial ns b n)) (not-false _ (clear clash_no)) k h)
          l m

      same : (k l i j : ℕ) → k < length ns → l < length ns → Looked partial ns b k → Looked partial ns b l
          → i < size (net_in ns k) → j < size (net_in ns l) → OneWire partial ns b k l i j → Dec (l < k) → Dec (k < l) → k ≡ l
      same k l i j hk hl ok ol hi hj o (yes m) d = absurd (no_conflict-at partial ns b k l (apart k l hk m) ok ol i j hi hj o)
      same k l i j hk hl ok ol hi hj o (no m) (yes d) = absurd (no_conflict-at partial ns b l k (apart l k hl d) ol ok j i hj hi (sym o))
      same k l i j hk hl ok ol hi hj o (no m) (no d) = omega arith

  pub legal-number : LegalAmong (Looked partial ns b) board w ns b → assignment_number partial board w ns b ≡ 0
  unfolding track_out_of_range in_range not_switched switched broken_wire whole_wires wire_conflict
  legal-number h =
      number-none partial board w ns b
      (clear-more table 4
      (clear-more table 3
      (clear-more table 2
      (clear-more table 1
      (clear-more table 0 (clear_none table) (wrong_size-false ns b h.whole))
      (ap not (at-every_net partial (in_range w) ns b (λ k l o. at_every _ _ (λ i m. lt-ltb _ w (h.below k i l o m))))))
      (ap not (at-every_net partial (switched (board.partner w)) ns b (λ k l o. at_every _ _ (λ i m. connects k l o i m (dec_lt 0 i))))))
      (ap not (at-every_net partial (whole_wires board.broken) ns b (λ k l o. at_every _ _ (λ i m. ap not (h.unbroken k i l o m))))))
      (ap not (at_every _ _ (λ k p. at_every _ _ (λ l q.
      at-no_conflict partial ns b k l (λ ok ol i j hi hj o. apart k l i j p q ok ol hi hj o))))))
    where
      table : List (ℕ × Bool)
      table = ticket_conditions partial board w ns b

      connects : (k : ℕ) → k < length ns → Looked partial ns b k → (i : ℕ) → i < size (net_in ns k) → Dec (0 < i)
          → switched_at (board.partner w) (net_in ns k) (tracks_of ns b k) i ≡ true
      connects k l o i m (yes z) = switched_at-later (board.partner w) (net_in ns k) (tracks_of ns b k) i z ∙ eq-eqb _ _ (h.joined k i l o z m)
      connects k l o i m (no z) = switched_at-first (board.partner w) (net_in ns k) (tracks_of ns b k) i (omega arith)

      apart : (k l i j : ℕ) → k < length ns → l < k → Looked partial ns b k → Looked partial ns b l
          → i < size (net_in ns k) → j < size (net_in ns l) → OneWire partial ns b k l i j → ⊥
      apart k l i j p q ok ol hi hj o = let e = h.alone k l i j p (omega arith) ok ol hi hj o in omega arith

  -- where no wire is broken, 21 is left out
  pub number-unbroken : broken_wire partial board.broken ns b ≡ false
      → assignment_number partial board w ns b ≡ first_number (track_conditions partial board w ns b ++ clash_conditions partial ns b)
  unfolding assignment_number first_number
  number-unbroken e =
      let tracks = track_conditions partial board w ns b in
      let clashes = clash_conditions partial ns b in
      ap (λ (x : Bool). first_number (tracks ++ ((broken_no, x) ∷ clashes))) e
      ∙ first_number-append tracks ((broken_no, false) ∷ clashes) refl
      ∙ sym (first_number-append tracks clashes refl)

-- as Refit and Remove read a ticket: none of 10 to 13 and 21 applies exactly where it is legal for its routed nets
module _ (s d : List ℕ) (w : ℕ) (b : List ℕ) where
  abbrev partly_number : ℕ
  partly_number = assignment_number true (board_of s d) w (nets s) b

  pub number-partly : partly_number ≡ 0 → PartlyLegalAt s d w b
  number-partly e =
      let L = number-legal true (board_of s d) w (nets s) b e in
      legal-among b L L.whole (λ k h o. (skipped-partial (tracks_of (nets s) b k) ∙ o, refl))

  pub partly-number : PartlyLegalAt s d w b → partly_number ≡ 0
  partly-number L =
      legal-number true (board_of s d) w (nets s) b
      (legal-among b L L.whole (λ k h o. (sym (skipped-partial (tracks_of (nets s) b k)) ∙ o, refl)))

  -- an assignment that is legal for all nets is for its routed ones
  pub legal-partly : LegalAt s d w b → PartlyLegalAt s d w b
  legal-partly L = legal-among b L L.whole (λ k h o. (tt, refl))

-- ---- number_on

module _ (partial : Bool) (s d b : List ℕ) where
  abbrev own_number : ℕ
  own_number = assignment_number partial (board_of s d) (width_of s) (nets s) b

  abbrev own_conditions : List (ℕ × Bool)
  own_conditions = ticket_conditions partial (board_of s d) (width_of s) (nets s) b

  -- 19 and 20 of the list, for this sheet's chip
  abbrev own_list : ℕ
  own_list = list_number (channels_of s) d

  pub number_on-refused : (refusal s ≡ 0 → ⊥) → number_on partial s d b ≡ refusal s
  unfolding number_on refusal
  number_on-refused = first_number-before (sheet_conditions s) (list_conditions (channels_of s) d ++ own_conditions) refl

  -- on an accepted sheet, the list's number, else the ticket's
  pub number_on-or : WellFormed s → number_on partial s d b ≡ or_number own_list own_number
  unfolding number_on refusal list_number assignment_number
  number_on-or e =
      first_number-rest (sheet_conditions s) (list_conditions (channels_of s) d ++ own_conditions) refl e
      ∙ first_number-append (list_conditions (channels_of s) d) own_conditions refl

  pub number_on-list : WellFormed s → (own_list ≡ 0 → ⊥) → number_on partial s d b ≡ own_list
  number_on-list e n = number_on-or e ∙ or_number-first _ _ n

  pub number_on-accepted : WellFormed s → own_list ≡ 0 → number_on partial s d b ≡ own_number
  number_on-accepted e n = number_on-or e ∙ or_number-second _ _ n

  pub number_on-zero : number_on partial s d b ≡ 0 → WellFormed s × (own_list ≡ 0) × (own_number ≡ 0)
  unfolding number_on refusal list_number assignment_number
  number_on-zero e =
      let z = first_number-both (sheet_conditions s) (list_conditions (channels_of s) d ++ own_conditions) refl e in
      let r = first_number-both (list_conditions (channels_of s) d) own_conditions refl z.1 in
      (z.0, r.0, r.1)

-- ---- check_of

module _ (s d b : List ℕ) where
  pub check_of-number_on : check_of s d b ≡ number_on false s d b
  unfolding check_of number_on
  check_of-number_on = refl

  pub check-legal : check_of s d b ≡ 0 → WellFormed s × AcceptedList (channels_of s) d × LegalAt s d (width_of s) b
  check-legal e =
      let z = number_on-zero false s d b (sym check_of-number_on ∙ e) in
      let L = number-legal false (board_of s d) (width_of s) (nets s) b z.2 in
      (z.0, (list-exactly (channels_of s) d).zero.0 z.1, legal-among b L L.whole (λ k h o. (skipped-whole (tracks_of (nets s) b k), refl)))

  pub legal-check : WellFormed s → AcceptedList (channels_of s) d → LegalAt s d (width_of s) b → check_of s d b ≡ 0
  legal-check e n L =
      check_of-number_on
      ∙ number_on-accepted false s d b e ((list-exactly (channels_of s) d).zero.1 n)
      ∙ legal-number false (board_of s d) (width_of s) (nets s) b (legal-among b L L.whole (λ k h o. (tt, refl)))
