-- "Spent", refusals, budgets and what is written (00, demands 2 and 3; 01 "Trials", "Words for no"), of every call on all byte lists.
-- Assumes nothing.
-- call-spent: 16 exactly if the whole run needs more trials than the budget, and the trials of the answer. call-refused: which numbers, and
-- the other results of one that is not 0. call-unmoved: moved is 0 outside Refit. call-writes: no refusal writes, and success writes one
-- byte per entry. call-budget: a larger budget changes nothing but 16; search-budget: of a search itself.
use mathlib.Core.Path.{◌≡◌, refl, sym, subst, ap, ◌∙◌, fun_ext}
use mathlib.Core.Logic.{◌≢◌, inl, inr}
use Prim.Native.Nat.{ℕ, ◌-◌, ◌≤◌}
use native.Mathlib.Omega.{arith}
use native.Mathlib.Decide.{dec_le}
use mathlib.Core.List.{List}
use Rattle.numbers.specs.Numbers.{spent_no}
use Rattle.bounded.specs.Lists.{memb}
use Rattle.backtracking.specs.Search.{Outcome, trials}
use Rattle.backtracking.specs.Budget.{keep, under_budget}
use Rattle.backtracking.proofs.BudgetLaws.{under_budget-yes, under_budget-not}
use Rattle.routing.specs.declared.Answer.{Answer}
use Rattle.routing.specs.declared.Call.{Call}
use Rattle.routing.specs.declared.Call.TheVariants.{Route, Least, Refit}
use Rattle.routing.specs.Outcomes.{Inputs, with_budget, run, moved_by, number_before, answer, output, answer_of, output_of}
use Rattle.routing.specs.Results.{SpentExactly, Refused, Written, IsOneOf, numbers_of, StaysUnspent}
use Rattle.routing.proofs.OutcomeLaws.{AfterTrials, answer-spent, answer-before, answer-after, answer-others, answer-trials, answer-unmoved, answer-larger, output-written}
use Rattle.routing.proofs.RefusalLaws.{number_before-uses, number_before-not-spent, number_before-zero}

-- every call uses the numbers that come after trials
after-uses : (c : Call) (a : Answer) → AfterTrials a → IsOneOf a.number (numbers_of c)
unfolding memb
after-uses (Route h) a (inl e) = rw e
after-uses (Route h) a (inr (inl e)) = rw e
after-uses (Route h) a (inr (inr e)) = rw e
after-uses (Least h) a (inl e) = rw e
after-uses (Least h) a (inr (inl e)) = rw e
after-uses (Least h) a (inr (inr e)) = rw e
after-uses Refit a (inl e) = rw e
after-uses Refit a (inr (inl e)) = rw e
after-uses Refit a (inr (inr e)) = rw e

outside-refit : (c : Call) (i : Inputs) → c ≢ Refit → (hs : List ℕ) → moved_by c i hs ≡ 0
unfolding moved_by
outside-refit (Route h) i n hs = refl
outside-refit (Least h) i n hs = refl
outside-refit Refit i n hs = absurd (n refl)

-- the budget is in none of these
same-run : (c : Call) (i : Inputs) (larger : ℕ) → run c (with_budget i larger) ≡ run c i
unfolding run
same-run (Route h) i larger = refl
same-run (Least h) i larger = refl
same-run Refit i larger = refl

same-moved : (c : Call) (i : Inputs) (larger : ℕ) (hs : List ℕ) → moved_by c (with_budget i larger) hs ≡ moved_by c i hs
unfolding moved_by
same-moved (Route h) i larger hs = refl
same-moved (Least h) i larger hs = refl
same-moved Refit i larger hs = refl

same_number : (c : Call) (i : Inputs) (larger : ℕ) → number_before c (with_budget i larger) ≡ number_before c i
unfolding number_before
same_number (Route h) i larger = refl
same_number (Least h) i larger = refl
same_number Refit i larger = refl

module _ (c : Call) (i : Inputs) where
  pub call-spent : SpentExactly c i (answer_of c i)
  unfolding answer_of
  call-spent =
      let r = answer-spent i.budget (moved_by c i) (run c i) (number_before c i) (number_before-not-spent c i) in
      record { exactly = r.0; spent = r.1; counted = r.2 }

  pub call-refused : Refused c i (answer_of c i)
  unfolding answer_of
  call-refused = record {
    uses = at (dec_le (number_before c i) 0);
    before = before;
    after = after;
    trials = answer-trials i.budget (moved_by c i) (run c i) (number_before c i);
    others = answer-others i.budget (moved_by c i) (run c i) (number_before c i);
  }
    where
      before : number_before c i ≢ 0 → (answer_of c i).number ≡ number_before c i
      before n = ap (λ (a : Answer). a.number) (answer-before i.budget (moved_by c i) (run c i) (number_before c i) n)

      after : number_before c i ≡ 0 → AfterTrials (answer_of c i)
      after e =
          subst (λ (x : ℕ). AfterTrials (answer x i.budget (moved_by c i) (run c i))) (sym e)
          (answer-after i.budget (moved_by c i) (run c i))

      at : Dec (number_before c i ≤ 0) → IsOneOf (answer_of c i).number (numbers_of c)
      at (yes l) = after-uses c (answer_of c i) (after (omega arith))
      at (no l) = subst (λ (x : ℕ). IsOneOf x (numbers_of c)) (sym (before (λ e. l (omega arith)))) (number_before-uses c i)

  pub call-unmoved : c ≢ Refit → (answer_of c i).moved ≡ 0
  unfolding answer_of
  call-unmoved n = answer-unmoved i.budget (moved_by c i) (run c i) (outside-refit c i n) (number_before c i)

  pub call-writes : Written i (answer_of c i).number (output_of c i)
  unfolding answer_of output_of
  call-writes = output-written i (moved_by c i) (number_before c i) (run c i) (λ e. (number_before-zero c i e).1)

  -- "Where the number is not 16, every larger budget, all other inputs the same, gives the same number, width, trials and moved, and the
  -- same bytes in the whole output."
  pub call-budget : (larger : ℕ) → i.budget ≤ larger → (answer_of c i).number ≢ spent_no
      → (answer_of c (with_budget i larger) ≡ answer_of c i) × (output_of c (with_budget i larger) ≡ output_of c i)
  unfolding answer_of output_of
  call-budget larger more n =
      let r = answer-larger i.budget (moved_by c i) (run c i) (number_before c i) larger more n in
      let x = same_number c i larger in
      let m = fun_ext (same-moved c i larger) in
      let o = same-run c i larger in (
        (λ k. answer (x k) larger (m k) (o k)) ∙ r.0,
        (λ k. output (x k) larger i.sheet (o k) i.out) ∙ r.1 i.sheet i.out,
      )

-- a search that is not spent gives its whole outcome under every larger budget too, and keeps what is left
pub search-budget : {A : Type 0} (o : Outcome A) → StaysUnspent o
search-budget o budget larger more n = at (dec_le (trials o) budget)
  where
    at : Dec (trials o ≤ budget)
        → (under_budget o budget ≡ keep o (budget - trials o)) × (under_budget o larger ≡ keep o (larger - trials o))
    at (yes l) = (under_budget-yes o budget l, under_budget-yes o larger (omega arith))
    at (no l) = absurd (n (under_budget-not o budget (omega arith)))
