-- What a call answers and writes when its run has ended (specs/Ending.antt) is its outcome. Assumes nothing.
-- got-is, nothing_is, spent-is: what a run under a budget says of the whole run. ran-writes, ran-outcome: what `conclude` needs, and that what it
-- answers and writes is of the whole run. ran-lent: a call's run is that on the marks of its list. IsOutcome: of a whole call, refused or searched.
use mathlib.Core.Path.{◌≡◌, refl, sym, subst, ap, ◌∙◌}
use mathlib.Core.Bool.{Bool}
use mathlib.Core.List.{List, []}
use Prim.Native.Nat.{ℕ, zero, suc, ◌-◌, ◌≤◌, ◌<◌}
use native.Mathlib.Omega.{arith}
use native.Mathlib.Decide.{dec_le}
use lib.ListN.{take}
use Rattle.backtracking.specs.Search.{Outcome, found, not_found, trials}
use Rattle.backtracking.specs.Budget.{got, nothing, spent, under_budget}
use Rattle.backtracking.proofs.BudgetLaws.{under_budget-yes, under_budget-not}
use Rattle.grid.specs.Grid.{Wire}
use Rattle.marks.specs.Marks.{marked_in}
use Rattle.defects.specs.Facts.{Marked}
use Rattle.defects.specs.Defects.{is_dead}
use Rattle.routing.specs.declared.Answer.{Answer}
use Rattle.routing.specs.declared.Call.{Call}
use Rattle.routing.specs.declared.Call.TheVariants.{Route, Least, Refit}
use Rattle.routing.specs.Outcomes.{Inputs, lent, run, moved_by, number_before, refused, finished, answer, written_by, output, answer_of, output_of}
use Rattle.routing.proofs.OutcomeLaws.{answer-within, answer-over, output-within, output-over}
use Rattle.tracksearch.specs.declared.Ended.{Ended}
use Rattle.tracksearch.specs.declared.Ended.TheVariants.{Found, Exhausted, Spent}
use Rattle.tracksearch.specs.State.{run_of, InBudget}
use Rattle.planner.specs.declared.Plan.{Plan}
use Rattle.runs.specs.declared.Routed.{Routed}
use Rattle.runs.specs.Runs.{run_on, WhenFound, found_in, FoundBy, Ran}
use Rattle.runs.proofs.RanLaws.{when_found-map, ran-as}
use Rattle.calls.specs.Ending.{concluded, output_after, Writes}

-- ---- what a run under a budget says of the whole run

-- two different constructors are never equal
apart : ◌≡◌ {A = ℕ} 0 1 → ⊥
apart z = omega arith

module _ {A : Type 0} (b : ℕ) where
  -- a run that found something is the whole outcome, with the trials used
  got-is : (a : A) (u : ℕ) (o : Outcome A) → u ≤ b → got a (b - u) ≡ under_budget o b → o ≡ found a u
  got-is a u o h e = at o (dec_le (trials o) b) e
    where
      at : (o : Outcome A) → Dec (trials o ≤ b) → got a (b - u) ≡ under_budget o b → o ≡ found a u
      at (found x c) (yes l) e =
          let g = e ∙ under_budget-yes (found x c) b l in
          let r : b - u ≡ b - c = cc in
          let q : c ≡ u = omega arith in
          cc
      at (found x c) (no l) e = let g = under_budget-not (found x c) b (omega arith) in absurd (apart (cc))
      at (not_found c) (yes l) e = let g = under_budget-yes {A = A} (not_found c) b l in absurd (apart (cc))
      at (not_found c) (no l) e = let g = under_budget-not {A = A} (not_found c) b (omega arith) in absurd (apart (cc))

  nothing_is : (u : ℕ) (o : Outcome A) → u ≤ b → nothing (b - u) ≡ under_budget o b → o ≡ not_found u
  nothing_is u o h e = at o (dec_le (trials o) b) e
    where
      at : (o : Outcome A) → Dec (trials o ≤ b) → nothing (b - u) ≡ under_budget o b → o ≡ not_found u
      at (found x c) (yes l) e = let g = under_budget-yes (found x c) b l in absurd (apart (cc))
      at (found x c) (no l) e = let g = under_budget-not (found x c) b (omega arith) in absurd (apart (cc))
      at (not_found c) (yes l) e =
          let g = e ∙ under_budget-yes {A = A} (not_found c) b l in
          let r : b - u ≡ b - c = cc in
          let q : c ≡ u = omega arith in
          ap not_found q
      at (not_found c) (no l) e = let g = under_budget-not {A = A} (not_found c) b (omega arith) in absurd (apart (cc))

  spent-is : (o : Outcome A) → spent ≡ under_budget o b → b < trials o
  spent-is o e = at o (dec_le (trials o) b) e
    where
      at : (o : Outcome A) → Dec (trials o ≤ b) → spent ≡ under_budget o b → b < trials o
      at (found x c) (yes l) e = let g = under_budget-yes (found x c) b l in absurd (apart (cc))
      at (not_found c) (yes l) e = let g = under_budget-yes {A = A} (not_found c) b l in absurd (apart (cc))
      at o (no l) e = omega arith

-- ---- what `conclude` answers and writes

module _ (s : List ℕ) (p : Plan) (budget : ℕ) (o : Outcome (ℕ × List ℕ)) (moved : List ℕ → ℕ) where
  same_outcome : (e : Ended Routed) (out : List ℕ) → InBudget budget e → run_of (found_in p.count) budget e ≡ under_budget o budget
      → WhenFound e (FoundBy s p moved)
      → (concluded budget e ≡ answer 0 budget moved o) × (output_after s p.count e out ≡ output 0 budget s o out)
  unfolding run_of finished written_by
  same_outcome (Found u r) out h e F =
      let x : Outcome (ℕ × List ℕ) = found (r.width, take p.count r.homes) u in
      let g = sym (got-is budget (r.width, take p.count r.homes) u o h e) in (
        ap (λ (n : ℕ). record { number = 0; width = r.width; trials = u; moved = n }) F.moved
            ∙ sym (answer-within budget x moved h)
            ∙ ap (answer 0 budget moved) g,
        sym (output-within budget x s out h) ∙ ap (λ (x : Outcome (ℕ × List ℕ)). output 0 budget s x out) g,
      )
  same_outcome (Exhausted u) out h e F =
      let g = sym (nothing_is budget u o h e) in (
        sym (answer-within budget (not_found u) moved h) ∙ ap (answer 0 budget moved) g,
        sym (output-within budget (not_found u) s out h) ∙ ap (λ (x : Outcome (ℕ × List ℕ)). output 0 budget s x out) g,
      )
  same_outcome Spent out h e F =
      let l = spent-is budget o e in (sym (answer-over budget o moved l), sym (output-over budget o s out l))

-- the run o ended so
module _ {s : List ℕ} {p : Plan} {budget : ℕ} {o : Outcome (ℕ × List ℕ)} {moved : List ℕ → ℕ} {e : Ended Routed} (D : Ran s p budget budget o moved e) where
  pub ran-writes : {n : ℕ} → p.count ≡ n → WhenFound e (Writes s p n)
  ran-writes q =
      subst (λ (n : ℕ). WhenFound e (Writes s p n)) q (when_found-map e (λ r F. record { writable = F.writable; few = F.few }) D.found)

  pub ran-outcome : (out : List ℕ) → (concluded budget e ≡ answer 0 budget moved o) × (output_after s p.count e out ≡ output 0 budget s o out)
  ran-outcome out = same_outcome s p budget o moved e out D.within D.same D.found

-- ---- the call's run

-- it is the run on the sheet and the old assignment, where `broken v` says that the wire v is broken
run_is : (c : Call) (i : Inputs) → run_on c i.sheet (is_dead i.dead) i.old ≡ run c i
unfolding run
run_is (Route h) i = refl
run_is (Least h) i = refl
run_is Refit i = refl

moved-is : (c : Call) (i : Inputs) (hs : List ℕ) → moved_by c (lent i.sheet [] i.old 0 []) hs ≡ moved_by c i hs
unfolding moved_by
moved-is (Route h) i hs = refl
moved-is (Least h) i hs = refl
moved-is Refit i hs = refl

-- where the plan's marks have the wires of the list
pub ran-lent : (c : Call) (i : Inputs) {p : Plan} {e : Ended Routed} → Marked i.dead p.dead
    → Ran i.sheet p i.budget i.budget (run_on c i.sheet (marked_in p.dead) i.old) (moved_by c (lent i.sheet [] i.old 0 [])) e
    → Ran i.sheet p i.budget i.budget (run c i) (moved_by c i) e
ran-lent c i M D = ran-as (ap (λ (f : Wire → Bool). run_on c i.sheet f i.old) M ∙ run_is c i) (λ hs h. moved-is c i hs) D

-- ---- IsOutcome: the call c answers a and leaves `last` in the output

module _ (c : Call) (i : Inputs) where
  abbrev pub IsOutcome : Answer → List ℕ → Type 0
  IsOutcome a last = (a ≡ answer_of c i) × (last ≡ output_of c i)

  -- a number before any trial comes alone, and nothing is written
  pub outcome-refused : {n : ℕ} {a : Answer} → n ≡ number_before c i → (n ≡ 0 → ⊥) → a ≡ refused n → IsOutcome a i.out
  unfolding answer_of output_of answer output
  outcome-refused e h q = let y = at (number_before c i) (λ z. h (e ∙ z)) in (q ∙ ap refused e ∙ y.0, y.1)
    where
      at : (y : ℕ) → (y ≡ 0 → ⊥)
          → (refused y ≡ answer y i.budget (moved_by c i) (run c i)) × (i.out ≡ output y i.budget i.sheet (run c i) i.out)
      at zero h = absurd (h refl)
      at (suc y) h = (refl, refl)

  -- the run that follows 0 ended so, and the call concludes from it
  pub outcome-searched : {a : Answer} {last : List ℕ} {p : Plan} {e : Ended Routed} → number_before c i ≡ 0
      → Ran i.sheet p i.budget i.budget (run c i) (moved_by c i) e
      → (a ≡ concluded i.budget e) × (last ≡ output_after i.sheet p.count e i.out) → IsOutcome a last
  unfolding answer_of output_of
  outcome-searched z D k =
      let g = ran-outcome D i.out in (
        k.0 ∙ g.0 ∙ ap (λ (x : ℕ). answer x i.budget (moved_by c i) (run c i)) (sym z),
        k.1 ∙ g.1 ∙ ap (λ (x : ℕ). output x i.budget i.sheet (run c i) i.out) (sym z),
      )
