-- The promises of Standard (specs/Forming.antt) of numbers and outputs that the calls gave: from the theorems about the definitions, which Demands
-- names. Assumes nothing.
-- form-room, form-prefix: where the form stands. forms: one call. compared: two sheets. formed_twice: a form's form. answered_alike, checked_alike: other calls on a sheet and on its form.
use mathlib.Core.Path.{◌≡◌, refl, sym, subst, subst₂, ap, ◌∙◌}
use mathlib.Core.Logic.{◌≢◌}
use Prim.Native.Nat.{ℕ, ◌≤◌}
use native.Mathlib.Omega.{arith}
use mathlib.Core.List.{List, []}
use lib.ListN.{length, take}
use lib.Seq.{length-take-le}
use Rattle.netlist.specs.Netlist.{WellFormed, mark_of, nets}
use Rattle.defects.proofs.DefectsLaws.{same_items-self}
use Rattle.assignment.specs.Check.{check_of}
use Rattle.routing.specs.declared.Answer.{Answer}
use Rattle.routing.specs.Equivalent.{Equivalent}
use Rattle.routing.specs.declared.Call.{Call}
use Rattle.routing.specs.Outcomes.{Inputs, lent, refused}
use Rattle.routing.specs.Results.{IsOneOf}
use Rattle.canonical.specs.Canonical.{canonical_form}
use Rattle.canonical.specs.Standard.{standard_number, standard_output, standard_numbers, StandardExactly, FormWritten, InCanonicalOrder, SameExactly}
use Rattle.demands.specs.SheetCalls.{standard}
use Rattle.demands.proofs.Demands.{demands}
use Rattle.answers.specs.Promises.{Gave}
use Rattle.answers.proofs.PromisesLaws.{relisted}
use Rattle.answers.specs.Forming.{Formed, form_in, Forms, Compared, FormedTwice, on_form, AnsweredAlike, CheckedAlike}

-- what the definitions promise holds of what the call gave
of-what-it-formed : (s out : List ℕ) {n : ℕ} {after : List ℕ} → Formed s out n after → (P : ℕ → List ℕ → Type 0)
    → P (standard_number s out) (standard_output s out) → P n after
of-what-it-formed s out {n} {after} F P h = subst (λ (m : ℕ). P m after) (sym F.0) (subst (P (standard_number s out)) (sym F.1) h)

-- the sheet is accepted, and its form stands in the output
module _ (s out : List ℕ) {n : ℕ} {after : List ℕ} (F : Formed s out n after) (z : n ≡ 0) where
  pub accepted : WellFormed s
  accepted = ((demands.standard.exactly s out).zero.0 (sym F.0 ∙ z)).0

  pub form-there : form_in s after ≡ canonical_form s
  form-there = ap (take (length s)) F.1 ∙ (demands.standard.writes s out).form (sym F.0 ∙ z)

  -- the output is no shorter than the sheet
  pub form-room : length s ≤ length after
  form-room =
      omega (arith, ((demands.standard.exactly s out).zero.0 (sym F.0 ∙ z)).1, ap length F.1, (demands.standard.writes s out).written.sized)

  pub form-prefix : length s ≡ length (form_in s after)
  form-prefix = sym (length-take-le (length s) after form-room)

  form-relisting : Equivalent s (form_in s after)
  form-relisting = subst (Equivalent s) (sym form-there) (demands.standard.relisting s accepted).0

pub forms : (s out : List ℕ) {n : ℕ} {after : List ℕ} → Formed s out n after → Forms s out n after
forms s out F = record {
  formed = F;
  exactly = of-what-it-formed s out F (λ k b. StandardExactly s out k) (demands.standard.exactly s out);
  uses = of-what-it-formed s out F (λ k b. IsOneOf k standard_numbers) (demands.demand1.uses standard (lent s [] [] 0 out));
  written = of-what-it-formed s out F (FormWritten s out) (demands.standard.writes s out);
  relisting = form-relisting s out F;
  mark = λ z. ap mark_of (form-there s out F z) ∙ demands.standard.mark s (accepted s out F z);
  order = λ z. subst (λ (b : List ℕ). InCanonicalOrder (nets b)) (sym (form-there s out F z)) (demands.standard.order s (accepted s out F z));
}

pub compared : (s t out out2 : List ℕ) {m n : ℕ} {after after2 : List ℕ} → Formed s out m after → Formed t out2 n after2
    → Compared s t out out2 m n after after2
compared s t out out2 F T = record {
  first = F;
  second = T;
  exactly = λ z y g k w q.
      subst₂ (SameExactly s t) (sym (form-there s out F z)) (sym (form-there t out2 T y))
      (demands.standard.same s t (record { accepted = accepted s out F z; accepted2 = accepted t out2 T y; grid = g; kind = k; width = w; mark = q }));
}

pub formed_twice : (s out out2 : List ℕ) {m n : ℕ} {after after2 : List ℕ}
    → Formed s out m after → (m ≡ 0 → Formed (form_in s after) out2 n after2) → (m ≢ 0 → (n ≡ m) × (after2 ≡ out2))
    → FormedTwice s out out2 m n after after2
formed_twice s out out2 {m} {n} {after} {after2} F T u = record {
  first = F;
  second = T;
  untouched = u;
  again = λ z l.
      let e = form-there s out F z in
      let R = demands.standard.relisting s (accepted s out F z) in
      let H : Formed (canonical_form s) out2 n after2 = subst (λ (b : List ℕ). Formed b out2 n after2) e (T z) in
      let y : n ≡ 0 = H.0 ∙ (demands.standard.exactly (canonical_form s) out2).zero.1 (R.0.accepted2, omega (arith, R.1)) in (
        y,
        ap (λ (k : ℕ). take k after2) (sym R.1) ∙ form-there (canonical_form s) out2 H y ∙ demands.standard.again s (accepted s out F z) ∙ sym e,
      );
}

pub answered_alike : (c : Call) (i : Inputs) (before old2 out2 : List ℕ) {m : ℕ} {form : List ℕ} {a b : Answer} {after after2 : List ℕ}
    → Formed i.sheet before m form → (m ≡ 0 → Gave c i a after) → (m ≡ 0 → Gave c (on_form i form old2 out2) b after2)
    → (m ≢ 0 → (a ≡ refused m) × (b ≡ refused m) × (after ≡ i.out) × (after2 ≡ out2)) → AnsweredAlike c i before old2 out2 m form a b after after2
answered_alike c i before old2 out2 F G H u = record {
  formed = F;
  first = G;
  second = H;
  untouched = u;
  same = λ z room room2 old.
      (relisted (record {
        sheets = form-relisting i.sheet before F z;
        dead = same_items-self i.dead;
        budget = refl;
        space = room;
        space2 = room2;
        old = old;
      }) (G z) (H z)).same;
}

pub checked_alike : (s d before a b : List ℕ) {m : ℕ} {form : List ℕ} {x y : ℕ}
    → Formed s before m form → (m ≡ 0 → x ≡ check_of s d a) → (m ≡ 0 → y ≡ check_of (form_in s form) d b) → (m ≢ 0 → (x ≡ m) × (y ≡ m))
    → CheckedAlike s d before a b m form x y
checked_alike s d before a b F X Y u = record {
  formed = F;
  first = X;
  second = Y;
  untouched = u;
  same = λ z p q S. X z ∙ demands.demand3.check_relisted s _ (form-relisting s before F z) d d (same_items-self d) a b S p q ∙ sym (Y z);
}
