-- The promises of a sheet and its twin (specs/Twinning.antt) of what the calls gave: from the theorems about the definitions, which Demands names.
-- Assumes nothing.
-- read_on_twin, recorded_on_twin, checked_on_twin, answered_on_twin, removed_on_twin, formed_on_twin: one for each call.
use mathlib.Core.Path.{◌≡◌, sym, subst, subst₂, ap, ◌∙◌}
use Prim.Native.Nat.{ℕ}
use mathlib.Core.List.{List, []}
use Rattle.netlist.specs.declared.Part.{Part}
use Rattle.reader.specs.declared.Counts.{Counts}
use Rattle.reader.specs.Read.{read_of, part_of}
use Rattle.assignment.specs.Check.{check_of}
use Rattle.routing.specs.declared.Answer.{Answer}
use Rattle.routing.specs.declared.Call.{Call}
use Rattle.routing.specs.Outcomes.{Inputs, lent, with_sheet}
use Rattle.routing.specs.Remove.{remove_number, remove_output}
use Rattle.canonical.specs.Twins.{widened, LaterPart}
use Rattle.demands.proofs.Demands.{demands}
use Rattle.answers.specs.Promises.{Gave}
use Rattle.answers.specs.Forming.{Formed}
use Rattle.answers.specs.Twinning.{ReadOnTwin, RecordedOnTwin, CheckedOnTwin, AnsweredOnTwin, RemovedOnTwin, FormedOnTwin}
use Rattle.answers.proofs.PromisesLaws.{alike, same-output}
use Rattle.answers.proofs.FormingLaws.{form-there}

pub read_on_twin : (s t : List ℕ) {a b : Counts} → a ≡ read_of s → b ≡ read_of t → ReadOnTwin s t a b
read_on_twin s t A B = record { first = A; second = B; same = λ T. B ∙ sym (demands.marks.same_listing (lent s [] [] 0 []) t T.same).read ∙ sym A }

pub recorded_on_twin : (s t : List ℕ) (k : ℕ) {p q : Part} → p ≡ part_of s k → q ≡ part_of t k → RecordedOnTwin s t k p q
recorded_on_twin s t k P Q = record {
  first = P;
  second = Q;
  later = λ T h. subst₂ (LaterPart k) (sym P) (sym Q) (demands.marks.twin_record s t T k h);
  past = λ T h. Q ∙ sym (demands.marks.twin_past s t T k h) ∙ sym P;
}

pub checked_on_twin : (s t d b : List ℕ) {x y : ℕ} → x ≡ check_of s d b → y ≡ check_of t d b → CheckedOnTwin s t d b x y
checked_on_twin s t d b X Y = record { first = X; second = Y; same = λ T. Y ∙ sym (demands.marks.same_listing (lent s d b 0 []) t T.same).check ∙ sym X }

pub answered_on_twin : {c : Call} {i : Inputs} {t : List ℕ} {a b : Answer} {after after2 out2 : List ℕ}
    → out2 ≡ i.out → Gave c i a after → Gave c (lent t i.dead i.old i.budget out2) b after2 → AnsweredOnTwin c i t a b after after2
answered_on_twin {c} {i} {t} o G H' =
    let H = same-output c i o t i.dead i.budget H' in
    record { first = G; second = H; same = λ T. alike c i (with_sheet i t) G H ((demands.marks.same_listing i t T.same).call c) }

pub removed_on_twin : {i : Inputs} {t : List ℕ} {x m n : ℕ} {after after2 out2 : List ℕ} → out2 ≡ i.out
    → (m ≡ remove_number i x) × (after ≡ remove_output i x)
    → (n ≡ remove_number (lent t i.dead i.old i.budget out2) x) × (after2 ≡ remove_output (lent t i.dead i.old i.budget out2) x)
    → RemovedOnTwin i t x m n after after2
removed_on_twin {i} {t} {x} {m} {n} {after} {after2} o G H' =
    let H = subst (λ (b : List ℕ). (n ≡ remove_number (lent t i.dead i.old i.budget b) x) × (after2 ≡ remove_output (lent t i.dead i.old i.budget b) x)) o H' in
    record {
      first = G;
      second = H;
      same = λ T. let e = (demands.marks.same_listing i t T.same).remove x in (H.0 ∙ sym e.0 ∙ sym G.0, H.1 ∙ sym e.1 ∙ sym G.1);
    }

pub formed_on_twin : (s t out out2 : List ℕ) {m n : ℕ} {after after2 : List ℕ} → Formed s out m after → Formed t out2 n after2
    → FormedOnTwin s t out out2 m n after after2
formed_on_twin s t out out2 F G = record {
  first = F;
  second = G;
  form = λ T z y. form-there t out2 G y ∙ demands.marks.twin_form s t T ∙ ap widened (sym (form-there s out F z));
}
