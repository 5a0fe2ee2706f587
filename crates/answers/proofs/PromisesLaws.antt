-- The promises (specs/Promises.antt) of answers and outputs that the calls gave, each once over the call: from the theorems about the
-- definitions, which Demands names. Assumes nothing.
-- of-what-it-gave, its-number: what is promised of the definitions holds of what a call gave. relisted, raised, any_width, two_lists, checked_twice:
-- two calls.
use mathlib.Core.Path.{◌≡◌, sym, subst, ap, ◌∙◌}
use Prim.Native.Nat.{ℕ, ◌≤◌}
use mathlib.Core.List.{List}
use Rattle.assignment.specs.Check.{check_of}
use Rattle.netsearch.specs.declared.Search.{Search}
use Rattle.routing.specs.declared.Answer.{Answer}
use Rattle.routing.specs.Equivalent.{Relisting, SameOutcome}
use Rattle.routing.specs.declared.Call.{Call}
use Rattle.routing.specs.declared.Call.TheVariants.{Least}
use Rattle.routing.specs.Outcomes.{Inputs, lent, with_sheet, with_dead, answer_of, output_of}
use Rattle.demands.proofs.Demands.{demands}
use Rattle.answers.specs.Promises.{Gave, Relisted, Raised, DifferInWidth, AnyWidth, TwoLists, CheckedTwice}

-- ---- answers and outputs that a call gave

abbrev number : Answer → ℕ
number a = a.number

module _ (c : Call) (i : Inputs) {r : Answer} {after : List ℕ} (G : Gave c i r after) where
  -- what the definitions promise holds of what the call gave
  pub of-what-it-gave : (P : Answer → List ℕ → Type 0) → P (answer_of c i) (output_of c i) → P r after
  of-what-it-gave P h = subst (λ (a : Answer). P a after) (sym G.0) (subst (P (answer_of c i)) (sym G.1) h)

  pub its-number : {x : ℕ} → r.number ≡ x → (answer_of c i).number ≡ x
  its-number e = ap number (sym G.0) ∙ e

-- ---- two calls

pub relisted : {c : Call} {i j : Inputs} {a b : Answer} {after after2 : List ℕ}
    → Relisting c i j → Gave c i a after → Gave c j b after2 → Relisted c i j a b after after2
relisted {c} {i} {j} {a} {b} {after} {after2} R G H = record {
  first = G;
  second = H;
  same = of-what-it-gave c i G (λ r x. SameOutcome i j r b x after2)
      (of-what-it-gave c j H (λ r x. SameOutcome i j (answer_of c i) r (output_of c i) x) (demands.demand3.relisted c i j R));
}

-- where the definitions say the same of two calls, they gave the same
pub alike : (c : Call) (i j : Inputs) {a b : Answer} {after after2 : List ℕ} → Gave c i a after → Gave c j b after2
    → (answer_of c i ≡ answer_of c j) × (output_of c i ≡ output_of c j) → (b ≡ a) × (after2 ≡ after)
alike c i j G H k = (H.0 ∙ sym k.0 ∙ sym G.0, H.1 ∙ sym k.1 ∙ sym G.1)

-- a second call that is lent another output with the same bytes
module _ (c : Call) (i : Inputs) {out2 : List ℕ} (e : out2 ≡ i.out) where
  pub same-output : (s d : List ℕ) (budget : ℕ) {b : Answer} {after2 : List ℕ}
      → Gave c (lent s d i.old budget out2) b after2 → Gave c (lent s d i.old budget i.out) b after2
  same-output s d budget {b} {after2} = subst (λ (x : List ℕ). Gave c (lent s d i.old budget x) b after2) e

pub raised : {c : Call} {i : Inputs} {larger : ℕ} {a b : Answer} {after after2 out2 : List ℕ}
    → i.budget ≤ larger → out2 ≡ i.out → Gave c i a after → Gave c (lent i.sheet i.dead i.old larger out2) b after2
    → Raised c i larger a b after after2
raised {c} {i} {larger} l e G H' =
    let H = same-output c i e i.sheet i.dead larger H' in
    record {
      first = G;
      second = H;
      stays = λ n.
          let k = demands.demand3.budget c i larger l (λ x. n (ap number G.0 ∙ x)) in
          (H.0 ∙ k.0 ∙ sym G.0, H.1 ∙ k.1 ∙ sym G.1);
    }

pub any_width : {h : Search} {i : Inputs} {t : List ℕ} {a b : Answer} {after after2 out2 : List ℕ}
    → DifferInWidth i.sheet t → out2 ≡ i.out
    → Gave (Least h) i a after → Gave (Least h) (lent t i.dead i.old i.budget out2) b after2 → AnyWidth h i t a b after after2
any_width {h} {i} {t} D e G H' =
    let H = same-output (Least h) i e t i.dead i.budget H' in
    record {
      first = G;
      second = H;
      same = alike (Least h) i (with_sheet i t) G H (demands.demand3.least_any_width h i t D.accepted D.accepted2 D.same);
    }

-- ---- two lists of dead wires

pub two_lists : {c : Call} {i : Inputs} {e : List ℕ} {a b : Answer} {after after2 out2 : List ℕ}
    → out2 ≡ i.out → Gave c i a after → Gave c (lent i.sheet e i.old i.budget out2) b after2 → TwoLists c i e a b after after2
two_lists {c} {i} {e} o G H' =
    let H = same-output c i o i.sheet e i.budget H' in
    record {
      first = G;
      second = H;
      any_order = λ S. alike c i (with_dead i e) G H (demands.dead_wires.any_order i e S c);
      same_dead = λ D. alike c i (with_dead i e) G H (demands.dead_wires.same_dead i e D.accepted D.accepted2 c D.same);
    }

pub checked_twice : (s d e b : List ℕ) {x y : ℕ} → x ≡ check_of s d b → y ≡ check_of s e b → CheckedTwice s d e b x y
checked_twice s d e b X Y = record {
  first = X;
  second = Y;
  any_order = λ S. X ∙ demands.dead_wires.check_any_order s d e b S ∙ sym Y;
  same_dead = λ D. X ∙ demands.dead_wires.check_same_dead s d e b D.accepted D.accepted2 D.same ∙ sym Y;
}
