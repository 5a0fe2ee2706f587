-- Remove, taking a net out (02, M-100), over all byte lists and numbers. Assumes nothing.
-- remove-exactly: when success comes, and when 17. remove-uses, remove-order: which numbers, in the order of the table. remove-writes, remove-bytes: what is written, every byte.
-- remove-tests, refit-tests: none of a ticket's numbers exactly where it is legal for its routed nets, with Refit's list. remove-legal: so is what is written, with
-- the routed nets of the lent ticket but for the one taken out. Beside another call: proofs/WayBackTheorems.antt.
use mathlib.Core.Path.{◌≡◌, refl, sym, subst, ap, ◌∙◌}
use mathlib.Core.Logic.{◌⊎◌, ◌↔◌, ◌≢◌, inl, inr}
use Prim.Native.Nat.{ℕ, ◌≤◌, ◌<◌}
use native.Mathlib.Omega.{arith}
use native.Mathlib.Decide.{dec_le}
use mathlib.Core.List.{List, [], ◌∷◌, ◌++◌, map}
use mathlib.Core.Bool.{Bool, true, false, not, ◌||◌, true≢false}
use lib.Dec.{eqb}
use lib.ListN.{length, get_or, drop}
use borrow.Author.Tests.{eqb-true, eq-eqb, not-true}
use Rattle.bounded.specs.Lists.{memb, every_in}
use Rattle.bounded.proofs.BoundedLaws.{either_true}
use Rattle.bounded.proofs.ListsLaws.{map_at}
use Rattle.numbers.specs.Numbers.{in_order_of, InTableOrder, first_number, stranger_no, unroutable_no, spent_no, list_no, repeat_no}
use Rattle.numbers.proofs.NumbersLaws.{first_number-append, first_number-both, first_number-rest, or_number, or_number-first, or_number-second}
use Rattle.net.specs.Net.{Net}
use Rattle.net.specs.Nets.{entry_count, net_in}
use Rattle.netlist.specs.Netlist.{sheet_conditions, WellFormed, refusal, nets, channels_of}
use Rattle.nettracks.specs.NetTracks.{unrouted}
use Rattle.defects.specs.Defects.{AcceptedList}
use Rattle.defects.specs.Facts.{list_number}
use Rattle.defects.proofs.ListLaws.{list-exactly}
use Rattle.assignment.specs.Assignment.{tracks_of, Unrouted, Routed, PartlyLegalAt}
use Rattle.assignment.specs.Facts.{assignment_number}
use Rattle.assignment.proofs.AssignmentLaws.{tracks_of-length, track_at-byte}
use Rattle.assignment.proofs.CheckLaws.{legal-among, number-partly, partly-number}
use Rattle.routing.specs.Outcomes.{Inputs, with_dead, width_in, nets_in, out_conditions, number_before, answer_of, unknown_net, remove_conditions}
use Rattle.routing.specs.declared.Call.TheVariants.{Refit}
use Rattle.routing.specs.Results.{PartlyLegalFor, assignment_in, Written, IsOneOf, IsNoneOf, remove_numbers, ticket_numbers}
use Rattle.routing.specs.Remove.{remove_number, left_of, without, remove_output, HasNet, RemovesExactly, TakenOut, LeftLegal}
use Rattle.routing.proofs.BudgetTheorems.{call-refused}
use Rattle.routing.proofs.OverwriteLaws.{overwrite-first, overwrite-later, overwrite-length}
use Rattle.routing.proofs.RefusalLaws.{first_number-passes, number_before-accepted, number_before-later, dead_conditions, old_conditions}
use Rattle.routing.proofs.RemoveLaws.{old_number-own, left-unrouted, without-length, without-own, without-others, unknown_net-false, unknown_net-true, stranger_conditions, own_conditions}
use Rattle.routing.proofs.RemoveLaws.{old_number-own, old_number, remove_number-refused, remove_number-accepted, late-unknown, late-known, Accepts, remove_number-zero, zero-remove_number, remove_output-zero, remove_output-refused}

-- ---- numbers

-- no number of the list is 17
abbrev no_stranger : ℕ → Bool
no_stranger y = not (eqb y stranger_no)

not-stranger : (xs : List (ℕ × Bool)) → every_in no_stranger (map (λ (x : ℕ × Bool). x.0) xs) ≡ true → first_number xs ≢ stranger_no
not-stranger xs h e =
    true≢false (sym (eq-eqb (first_number xs) stranger_no e) ∙ not-true _ (first_number-passes no_stranger refl xs h))

module _ (i : Inputs) (x : ℕ) where
  abbrev Partly : Type 0
  Partly = PartlyLegalFor (with_dead i []) i.old

  remove-stranger : remove_number i x ≡ stranger_no → WellFormed i.sheet × Partly × (HasNet (nets_in i) x → ⊥)
  unfolding refusal assignment_number every_in
  remove-stranger e = sheet (dec_le (refusal i.sheet) 0)
    where
      net : (q : Bool) → unknown_net (nets_in i) x ≡ q → first_number (stranger_conditions i x) ≡ stranger_no → HasNet (nets_in i) x → ⊥
      net true u z = (unknown_net-true (nets_in i) x).0 u
      net false u z = absurd (not-stranger (out_conditions i) refl (sym (late-known i x u) ∙ z))

      ticket : WellFormed i.sheet → Dec (old_number i ≤ 0) → WellFormed i.sheet × Partly × (HasNet (nets_in i) x → ⊥)
      ticket a (yes l) =
          let z : old_number i ≡ 0 = omega arith in
          let f = sym (remove_number-accepted i x a ∙ or_number-second _ _ z) ∙ e in
          (a, number-partly i.sheet [] (width_in i) i.old z, net (unknown_net (nets_in i) x) refl f)
      ticket a (no l) =
          absurd (not-stranger (own_conditions i) refl (sym (remove_number-accepted i x a ∙ or_number-first _ _ (λ z. l (omega arith)) ∙ old_number-own i) ∙ e))

      sheet : Dec (refusal i.sheet ≤ 0) → WellFormed i.sheet × Partly × (HasNet (nets_in i) x → ⊥)
      sheet (yes l) = ticket (omega arith) (dec_le (old_number i) 0)
      sheet (no l) = absurd (not-stranger (sheet_conditions i.sheet) refl (sym (remove_number-refused i x (λ z. l (omega arith))) ∙ e))

  -- "It refuses a number that the sheet lacks with 17 (stranger), after 13 and before 14."
  pub remove-exactly : RemovesExactly i x (remove_number i x)
  remove-exactly = record {
    zero = (
      (λ e.
          let A = remove_number-zero i x e in
          (A.accepted, number-partly i.sheet [] (width_in i) i.old A.ticket, (unknown_net-false (nets_in i) x).0 A.known, A.space)),
      (λ h. zero-remove_number i x (record {
        accepted = h.0;
        ticket = partly-number i.sheet [] (width_in i) i.old h.1;
        known = (unknown_net-false (nets_in i) x).1 h.2;
        space = h.3;
      })),
    );
    stranger = (
      remove-stranger,
      (λ h.
          remove_number-accepted i x h.0
          ∙ or_number-second _ _ (partly-number i.sheet [] (width_in i) i.old h.1)
          ∙ late-unknown i x ((unknown_net-true (nets_in i) x).1 h.2)),
    );
  }

  pub remove-uses : IsOneOf (remove_number i x) remove_numbers
  unfolding remove_number every_in memb
  remove-uses = first_number-passes (λ y. memb y remove_numbers) refl (remove_conditions i x) refl

  pub remove-order : InTableOrder (remove_conditions i x)
  unfolding in_order_of
  remove-order = refl

-- ---- what is written

module _ (i : Inputs) (x : ℕ) where
  abbrev ns : List Net
  ns = nets_in i

  abbrev b : List ℕ
  b = i.old

  -- the ticket that is written
  pub remove_first : Accepts i x → assignment_in i (remove_output i x) ≡ without ns x b
  remove_first A =
      ap (assignment_in i) (remove_output-zero i x (zero-remove_number i x A))
      ∙ overwrite-first (without ns x b) i.out (entry_count ns) (without-length ns x b)

  pub accepts-whole : Accepts i x → length b ≡ entry_count ns
  accepts-whole A = (number-partly i.sheet [] (width_in i) b A.ticket).whole

  -- "Success writes exactly the entry count of bytes …; later bytes keep their values", and "No refusal writes."
  pub remove-writes : Written i (remove_number i x) (remove_output i x)
  remove-writes = at (dec_le (remove_number i x) 0)
    where
      at : Dec (remove_number i x ≤ 0) → Written i (remove_number i x) (remove_output i x)
      at (no l) =
          let e = remove_output-refused i x (λ z. l (omega arith)) in
          record { sized = ap length e; refused = λ n. e; later = ap (drop (entry_count ns)) e }
      at (yes l) =
          let z : remove_number i x ≡ 0 = omega arith in
          let A = remove_number-zero i x z in
          let e = remove_output-zero i x z in
          let m = without-length ns x b in
          record {
            sized = ap length e ∙ overwrite-length (without ns x b) i.out (omega (arith, m, A.space));
            refused = λ n. absurd (n z);
            later = ap (drop (entry_count ns)) e ∙ overwrite-later (without ns x b) i.out (entry_count ns) m;
          }

  -- "that net's bytes 255 and all others as before"
  pub remove-bytes : remove_number i x ≡ 0 → TakenOut ns x b (assignment_in i (remove_output i x))
  remove-bytes z = rw (remove_first A) record {
    sized = without-length ns x b;
    own = λ k j h l e.
        sym (track_at-byte ns (without ns x b) k j l)
        ∙ ap (λ (ts : List ℕ). get_or ts j 0) (without-own ns x b whole k h e)
        ∙ map_at (left_of true) (tracks_of ns b k) 0 j (omega (arith, tracks_of-length ns b k whole h));
    others = λ k j h l e.
        sym (track_at-byte ns (without ns x b) k j l)
        ∙ ap (λ (ts : List ℕ). get_or ts j 0) (without-others ns x b whole k h e)
        ∙ track_at-byte ns b k j l;
  }
    where
      A : Accepts i x
      A = remove_number-zero i x z

      whole : length b ≡ entry_count ns
      whole = accepts-whole A

-- ---- tickets that are legal for their routed nets

-- the nets that the written ticket has, with any list e of dead wires
module _ (s : List ℕ) (x : ℕ) (b e : List ℕ) (w : ℕ) (L : PartlyLegalAt s e w b) where
  abbrev d : List ℕ
  d = without (nets s) x b

  -- the one that is taken out is unrouted
  taken-unrouted : (k : ℕ) → k < length (nets s) → (net_in (nets s) k).number ≡ x → Unrouted (nets s) d k
  taken-unrouted k h e =
      ap unrouted (without-own (nets s) x b L.whole k h e) ∙ left-unrouted (tracks_of (nets s) b k)

  pub same-tracks : (k : ℕ) → k < length (nets s) → (net_in (nets s) k).number ≢ x → tracks_of (nets s) d k ≡ tracks_of (nets s) b k
  same-tracks = without-others (nets s) x b L.whole

  pub left-routed : (k : ℕ) → k < length (nets s) → Routed (nets s) d k ↔ (Routed (nets s) b k × ((net_in (nets s) k).number ≢ x))
  left-routed k h = (
    (λ r.
        let n : (net_in (nets s) k).number ≢ x = λ e. true≢false (sym (taken-unrouted k h e) ∙ r) in
        (ap unrouted (sym (same-tracks k h n)) ∙ r, n)),
    (λ p. ap unrouted (same-tracks k h p.1) ∙ p.0),
  )

  left-legal : PartlyLegalAt s e w d
  left-legal =
      legal-among d L (without-length (nets s) x b) (λ k h o.
      let p = (left-routed k h).0 o in (p.0, same-tracks k h p.1))

-- "Of such a ticket demand 2 speaks for the placed nets alone."
pub remove-legal : (i : Inputs) (x : ℕ) → remove_number i x ≡ 0 → LeftLegal i.sheet x i.old (assignment_in i (remove_output i x))
remove-legal i x z =
    let A = remove_number-zero i x z in
    let L = number-partly i.sheet [] (width_in i) i.old A.ticket in
    rw (remove_first i x A) record {
      legal = left-legal i.sheet x i.old [] (width_in i) L;
      routed = left-routed i.sheet x i.old [] (width_in i) L;
      tracks = λ k h r.
          same-tracks i.sheet x i.old [] (width_in i) L k h ((left-routed i.sheet x i.old [] (width_in i) L k h).0 r).1;
    }

-- ---- the tests of a ticket

-- of the numbers of xs and ys, one behind the other, the first is none of `numbers` exactly if xs gives none: all of xs are of them, none of ys is
module _ (numbers : List ℕ) (xs ys : List (ℕ × Bool)) (z : memb 0 numbers ≡ false)
    (p : every_in (λ y. eqb y 0 || memb y numbers) (map (λ (x : ℕ × Bool). x.0) xs) ≡ true)
    (q : every_in (λ y. not (memb y numbers)) (map (λ (x : ℕ × Bool). x.0) ys) ≡ true) where
  first_of : first_number xs ≢ 0 → memb (first_number xs) numbers ≡ true
  first_of n = at (either_true _ _ (first_number-passes (λ y. eqb y 0 || memb y numbers) refl xs p))
    where
      at : (eqb (first_number xs) 0 ≡ true) ⊎ (memb (first_number xs) numbers ≡ true) → memb (first_number xs) numbers ≡ true
      at (inl e) = absurd (n (eqb-true _ _ e))
      at (inr e) = e

  first-none : IsNoneOf (or_number (first_number xs) (first_number ys)) numbers ↔ (first_number xs ≡ 0)
  first-none = (
    there (dec_le (first_number xs) 0),
    λ e. ap (λ y. memb y numbers) (or_number-second _ _ e) ∙ not-true _ (first_number-passes (λ y. not (memb y numbers)) (ap not z) ys q),
  )
    where
      there : Dec (first_number xs ≤ 0) → IsNoneOf (or_number (first_number xs) (first_number ys)) numbers → first_number xs ≡ 0
      there (yes l) e = omega arith
      there (no l) e =
          let n : first_number xs ≢ 0 = λ z. l (omega arith) in
          absurd (true≢false (sym (first_of n) ∙ ap (λ y. memb y numbers) (sym (or_number-first _ (first_number ys) n)) ∙ e))

module _ (i : Inputs) (a : WellFormed i.sheet) where
  -- "a ticket as Refit reads one": Remove finds none of 10 to 13 exactly where it is legal for its routed nets, whatever wires are broken
  pub remove-tests : (x : ℕ) → IsNoneOf (remove_number i x) ticket_numbers ↔ PartlyLegalFor (with_dead i []) i.old
  unfolding every_in memb
  remove-tests x =
      let t = first-none ticket_numbers (own_conditions i) (stranger_conditions i x) refl refl refl in
      let o = old_number-own i in
      let e = ap (λ y. memb y ticket_numbers) (remove_number-accepted i x a ∙ ap (λ (n : ℕ). or_number n (first_number (stranger_conditions i x))) o) in (
        (λ h. number-partly i.sheet [] (width_in i) i.old (o ∙ t.0 (sym e ∙ h))),
        (λ L. e ∙ t.1 (sym o ∙ partly-number i.sheet [] (width_in i) i.old L)),
      )

  -- Refit's answer is one of numbers exactly if its number before any trial is: 0, 15 and 16 are none of them
  module _ (numbers : List ℕ) (p : memb 0 numbers ≡ false) (q : memb unroutable_no numbers ≡ false) (r : memb spent_no numbers ≡ false) where
    after : number_before Refit i ≡ 0 → ((answer_of Refit i).number ≡ 0) ⊎ (((answer_of Refit i).number ≡ unroutable_no) ⊎ ((answer_of Refit i).number ≡ spent_no))
        → memb (answer_of Refit i).number numbers ≡ memb (number_before Refit i) numbers
    after z (inl e) = rw (e, z)
    after z (inr (inl e)) = rw (e, z) (q ∙ sym p)
    after z (inr (inr e)) = rw (e, z) (r ∙ sym p)

    before_same : memb (answer_of Refit i).number numbers ≡ memb (number_before Refit i) numbers
    before_same = by (dec_le (number_before Refit i) 0)
      where
        by : Dec (number_before Refit i ≤ 0) → memb (answer_of Refit i).number numbers ≡ memb (number_before Refit i) numbers
        by (yes l) = let z : number_before Refit i ≡ 0 = omega arith in after z ((call-refused Refit i).after z)
        by (no l) = ap (λ (y : ℕ). memb y numbers) ((call-refused Refit i).before (λ z. l (omega arith)))

  -- Refit finds none of 19, 20, 10 to 13 and 21 exactly where the list is accepted and the ticket is legal for its routed nets without its wires
  abbrev refit_numbers : List ℕ
  refit_numbers = list_no ∷ repeat_no ∷ ticket_numbers

  pub refit-tests : IsNoneOf (answer_of Refit i).number refit_numbers
      ↔ (AcceptedList (channels_of i.sheet) i.dead × PartlyLegalFor i i.old)
  unfolding every_in memb assignment_number list_number
  refit-tests =
      let tests = dead_conditions i ++ old_conditions i in
      let t = first-none refit_numbers tests (out_conditions i) refl refl refl in
      let X = list-exactly (channels_of i.sheet) i.dead in
      let e =
      before_same refit_numbers refl refl refl
      ∙ ap (λ y. memb y refit_numbers) (number_before-accepted Refit i a ∙ first_number-append tests (out_conditions i) refl)
      in (
        (λ h.
            let z = first_number-both (dead_conditions i) (old_conditions i) refl (t.0 (sym e ∙ h)) in
            (X.zero.0 z.0, number-partly i.sheet i.dead (width_in i) i.old z.1)),
        (λ g.
            e ∙ t.1
            (first_number-rest (dead_conditions i) (old_conditions i) refl (X.zero.1 g.0)
            ∙ partly-number i.sheet i.dead (width_in i) i.old g.1)),
      )

  -- with an accepted list, none of 10 to 13 and 21 exactly where the ticket is so
  pub refit-ticket : AcceptedList (channels_of i.sheet) i.dead → IsNoneOf (answer_of Refit i).number ticket_numbers ↔ PartlyLegalFor i i.old
  unfolding every_in memb assignment_number
  refit-ticket A =
      let t = first-none ticket_numbers (old_conditions i) (out_conditions i) refl refl refl in
      let z = (list-exactly (channels_of i.sheet) i.dead).zero.1 A in
      let e =
      before_same ticket_numbers refl refl refl
      ∙ ap (λ y. memb y ticket_numbers) (number_before-later Refit i a z ∙ first_number-append (old_conditions i) (out_conditions i) refl)
      in (
        (λ h. number-partly i.sheet i.dead (width_in i) i.old (t.0 (sym e ∙ h))),
        (λ L. e ∙ t.1 (partly-number i.sheet i.dead (width_in i) i.old L)),
      )
