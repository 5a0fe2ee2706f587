-- The promises of Remove (specs/Removing.antt) of numbers and outputs that the calls gave: from the theorems about the definitions, which
-- Demands names. Assumes nothing.
-- took-whole: a success has room. removes: one call. removed_alike: two calls on relistings. read_alike, way_back: beside Refit. no_worse: beside the
-- numbers of tickets under a list.
use mathlib.Core.Path.{◌≡◌, refl, sym, subst, ap, ◌∙◌}
use mathlib.Core.Logic.{◌↔◌, ◌≢◌}
use Prim.Native.Nat.{ℕ, ◌≤◌}
use native.Mathlib.Omega.{arith}
use mathlib.Core.Bool.{Bool, true, false, cond}
use mathlib.Core.List.{List, [], ◌∷◌}
use lib.ListN.{length}
use Rattle.numbers.specs.Numbers.{first_number, list_no, repeat_no, size_no, track_no, switch_no, broken_no, clash_no}
use Rattle.numbers.proofs.NumbersLaws.{or_number, or_number-first, or_number-second}
use Rattle.net.specs.Nets.{entry_count}
use Rattle.netlist.specs.Netlist.{WellFormed, width_of, channels_of, nets}
use Rattle.defects.specs.Defects.{is_dead, AcceptedList}
use Rattle.defects.specs.Facts.{list_number}
use Rattle.assignment.specs.Assignment.{broken_wire, PartlyLegalAt}
use Rattle.assignment.specs.Check.{number_on}
use Rattle.assignment.specs.Board.{board_of}
use Rattle.assignment.specs.Facts.{assignment_number}
use Rattle.assignment.proofs.AssignmentLaws.{number-clear}
use Rattle.assignment.proofs.CheckLaws.{partly-number, number_on-or}
use Rattle.routing.specs.declared.Answer.{Answer}
use Rattle.routing.specs.declared.Call.TheVariants.{Refit}
use Rattle.routing.specs.Outcomes.{Inputs, lent, with_dead, nets_in}
use Rattle.routing.specs.Remove.{remove_number, remove_output, RemoveRelisting, SameRemoved}
use Rattle.routing.specs.Results.{PartlyLegalFor, assignment_in, IsNoneOf, ticket_numbers}
use Rattle.demands.specs.SheetCalls.{remove}
use Rattle.demands.proofs.Demands.{demands}
use Rattle.answers.specs.Promises.{Gave}
use Rattle.answers.specs.Removing.{Took, Removes, RemovedAlike, ReadAlike, NoWorse, WayBack}

-- what the definitions promise holds of what the call gave
of-what-it-took : (i : Inputs) (x : ℕ) {n : ℕ} {after : List ℕ} → Took i x n after → (P : ℕ → List ℕ → Type 0)
    → P (remove_number i x) (remove_output i x) → P n after
of-what-it-took i x {n} {after} T P h = subst (λ (m : ℕ). P m after) (sym T.0) (subst (P (remove_number i x)) (sym T.1) h)

-- the sheet is accepted, and the output has room for what was written
pub took-whole : (i : Inputs) (x : ℕ) {n : ℕ} {after : List ℕ} → Took i x n after → n ≡ 0
    → WellFormed i.sheet × (entry_count (nets_in i) ≤ length after)
took-whole i x T z =
    let e = (demands.remove.exactly i x).zero.0 (sym T.0 ∙ z) in
    (e.0, omega (arith, e.3, (demands.remove.writes i x).sized, ap length T.1))

pub removes : {i : Inputs} {x n : ℕ} {after : List ℕ} → Took i x n after → Removes i x n after
removes {i} {x} T = of-what-it-took i x T (Removes i x) record {
  took = (refl, refl);
  exactly = demands.remove.exactly i x;
  uses = demands.demand1.uses (remove x) i;
  written = demands.remove.writes i x;
  bytes = demands.remove.bytes i x;
  legal = demands.remove.legal i x;
}

pub removed_alike : {i j : Inputs} {x m n : ℕ} {after after2 : List ℕ} → RemoveRelisting i j
    → Took i x m after → Took j x n after2 → RemovedAlike i j x m n after after2
removed_alike {i} {j} {x} {m} {n} {after} {after2} R T T2 = record {
  first = T;
  second = T2;
  same = of-what-it-took i x T (λ k b. SameRemoved i j k n b after2)
      (of-what-it-took j x T2 (λ k b. SameRemoved i j (remove_number i x) k (remove_output i x) b) (demands.remove.relisted i j x R));
}

pub read_alike : {i : Inputs} {x : ℕ} {out2 : List ℕ} {r : Answer} {after : List ℕ} {n : ℕ} {after2 : List ℕ}
    → Gave Refit i r after → Took (lent i.sheet [] i.old 0 out2) x n after2 → ReadAlike i x out2 r after n after2
read_alike {i} {x} {out2} G T = record {
  refitted = G;
  took = T;
  refit = λ a.
      subst
      (λ (y : Answer).
      IsNoneOf y.number (list_no ∷ repeat_no ∷ ticket_numbers) ↔ (AcceptedList (channels_of i.sheet) i.dead × PartlyLegalFor i i.old))
      (sym G.0)
      (demands.dead_wires.refit_tests i a);
  remove = λ a.
      subst (λ (y : ℕ). IsNoneOf y ticket_numbers ↔ PartlyLegalFor (with_dead i []) i.old) (sym T.0)
      (demands.remove.tests (lent i.sheet [] i.old 0 out2) a x);
}

-- where 10 to 13 do not apply, only 21 can
first-broken : (p q r b t : Bool) → p ≡ false → q ≡ false → r ≡ false → t ≡ false
    → first_number ((size_no, p) ∷ (track_no, q) ∷ (switch_no, r) ∷ (broken_no, b) ∷ (clash_no, t) ∷ []) ≡ cond b broken_no 0
unfolding first_number
first-broken p q r true t e f g h = rw (e, f, g, first_number)
first-broken p q r false t e f g h = rw (e, f, g, h, first_number)

-- of a ticket that is legal for its routed nets, whatever wires are broken, only 21 can apply under a list
module _ (s d b : List ℕ) (L : PartlyLegalAt s [] (width_of s) b) where
  abbrev broken : Bool
  broken = broken_wire true (is_dead d) (nets s) b

  only-broken : assignment_number true (board_of s d) (width_of s) (nets s) b ≡ cond broken broken_no 0
  unfolding assignment_number
  only-broken =
      let c = number-clear true (board_of s []) (width_of s) (nets s) b (partly-number s [] (width_of s) b L) in
      first-broken _ _ _ broken _ (c size_no) (c track_no) (c switch_no) (c clash_no)

  number-broken : WellFormed s → number_on true s d b ≡ or_number (list_number (channels_of s) d) (cond broken broken_no 0)
  number-broken a = number_on-or true s d b a ∙ ap (or_number (list_number (channels_of s) d)) only-broken

-- the number of a list x, else 21 where a ticket is on a broken wire: q says so of the lent ticket, r of the written one
worse : (x : ℕ) (q r : Bool) → (r ≡ true → q ≡ true) → or_number x (cond r broken_no 0) ≢ 0
    → or_number x (cond q broken_no 0) ≡ or_number x (cond r broken_no 0)
worse x q true h n = ap (λ (y : Bool). or_number x (cond y broken_no 0)) (h refl)
worse x q false h n =
    let m : x ≢ 0 = λ e. n (or_number-second x 0 e) in or_number-first x _ m ∙ sym (or_number-first x 0 m)

pub no_worse : (i : Inputs) (d : List ℕ) (x : ℕ) {m n : ℕ} {after : List ℕ} {k : ℕ}
    → Took i x n after → m ≡ number_on true i.sheet d i.old → (n ≡ 0 → k ≡ number_on true i.sheet d (assignment_in i after))
    → (n ≢ 0 → k ≡ n) → NoWorse i d x m n after k
no_worse i d x {m} {n} {after} {k} T B W u = record {
  took = T;
  before = B;
  written = W;
  untouched = u;
  same = λ z h.
      let r : remove_number i x ≡ 0 = sym T.0 ∙ z in
      let e = (demands.remove.exactly i x).zero.0 r in
      let b = assignment_in i (remove_output i x) in
      let p = B ∙ number-broken i.sheet d i.old e.1 e.0 in
      let q = W z ∙ ap (λ (a : List ℕ). number_on true i.sheet d (assignment_in i a)) T.1
      ∙ number-broken i.sheet d b (demands.remove.legal i x r).legal e.0 in
      p ∙ worse _ _ _ (demands.remove.broken i x d r) (λ y. h (q ∙ y)) ∙ sym q;
}

pub way_back : {i : Inputs} {x : ℕ} {out2 : List ℕ} {r : Answer} {after : List ℕ} {n : ℕ} {after2 : List ℕ}
    → Gave Refit i r after → (r.number ≡ 0 → Took (lent i.sheet [] (assignment_in i after) 0 out2) x n after2)
    → (r.number ≢ 0 → (n ≡ r.number) × (after2 ≡ out2)) → WayBack i x out2 r after n after2
way_back {i} {x} {out2} {r} {after} {n} {after2} G T u = record {
  refitted = G;
  took = T;
  untouched = u;
  back = λ e m U s.
      let w = demands.remove.way_back i x (ap (λ (a : Answer). a.number) (sym G.0) ∙ e) (ap (λ (a : Answer). a.moved) (sym G.0) ∙ m) U out2 s in
      let T2 = subst (λ (b : List ℕ). Took (lent i.sheet [] (assignment_in i b) 0 out2) x n after2) G.1 (T e) in
      (T2.0 ∙ w.0, T2.1 ∙ w.1);
}
