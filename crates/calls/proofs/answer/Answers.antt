-- `calls::answer` meets its contract: a number before any trial comes alone; past it the sheet, the list and Refit's old assignment are accepted and
-- the output has room, and the run under the whole budget ends as the whole run does. Assumes nothing.
use Rattle.std.proofs.Common.{◌≡◌, sym, ap, ap₂, subst, ◌∙◌, Bool, ℕ, List, [], ◌≤◌, length}
use Rattle.numbers.proofs.RefusalsLaws.{no_of-positive}
use Rattle.grid.specs.Grid.{Wire}
use Rattle.marks.specs.Marks.{marked_in}
use Rattle.net.specs.Nets.{entry_count}
use Rattle.netlist.specs.Netlist.{nets}
use Rattle.defects.specs.Defects.{is_dead}
use Rattle.defects.specs.Facts.{Marked}
use Rattle.routing.specs.declared.Call.{Call}
use Rattle.routing.specs.declared.Answer.{Answer}
use Rattle.routing.specs.Outcomes.{Inputs, lent, number_before, moved_by}
use Rattle.routing.proofs.RefusalLaws.{number_before-zero}
use Rattle.tracksearch.specs.declared.Ended.{Ended}
use Rattle.planner.specs.declared.Plan.{Plan}
use Rattle.runs.specs.declared.Routed.{Routed}
use Rattle.runs.specs.Runs.{old_number, run_on, Ran}
use Rattle.runs.proofs.RanLaws.{plan-count}
use Rattle.calls.specs.Ending.{concluded, output_after}
use Rattle.calls.proofs.NumberLaws.{number-lent, number-old}
use Rattle.calls.proofs.EndingLaws.{IsOutcome, ran-lent, ran-writes, outcome-refused, outcome-searched}
use Rattle.calls.proofs.answer.Goals as goal

pub returns-in-Err : goal.returns-in-Err
returns-in-Err c =
    let a = c.args in
    let i = lent a.s.now a.d.now a.old.now a.budget a.out.now in
    outcome-refused a.call i (rw c.in-Err.is at c.open_call.ensures.number ∙ number-lent a.call i) (no_of-positive _) c.refused_with.ensures

-- ---- past the refusals: the sheet t is the one lent, and the marks of the plan p are those of the list
module _ (x : Call) (i : Inputs) {t m : List ℕ} (p : Plan) (z : 0 ≡ number_before x (lent i.sheet i.dead i.old 0 i.out)) (own : (t ≡ i.sheet) × (marked_in m ≡ is_dead i.dead))
    (dead : p.dead ≡ m) where
  none : number_before x i ≡ 0
  none = sym (number-lent x i) ∙ sym z

  marks : Marked i.dead p.dead
  marks = ap marked_in dead ∙ own.1

  pub clear : old_number x t (marked_in p.dead) i.old ≡ 0
  clear =
      ap₂ (λ (s : List ℕ) (f : Wire → Bool). old_number x s f i.old) own.0 marks
      ∙ number-old x i none

  pub room : entry_count (nets t) ≤ length i.out
  room = subst (λ (s : List ℕ). entry_count (nets s) ≤ length i.out) (sym own.0) (number_before-zero x i none).1

  pub searched : {n : ℕ} {e : Ended Routed} {a : Answer} {last : List ℕ} → p.count ≡ n
      → Ran t p i.budget i.budget (run_on x t (marked_in p.dead) i.old) (moved_by x (lent t [] i.old 0 [])) e
      → (a ≡ concluded i.budget e) × (last ≡ output_after t n e i.out) → IsOutcome x i a last
  searched {e = e} {last = last} c D k =
      let D2 = subst (λ (s : List ℕ). Ran s p i.budget i.budget (run_on x s (marked_in p.dead) i.old) (moved_by x (lent s [] i.old 0 [])) e) own.0 D in
      outcome-searched x i none (ran-lent x i marks D2)
      (k.0, k.1 ∙ ap₂ (λ (s : List ℕ) (n : ℕ). output_after s n e i.out) own.0 (sym c))

pub run-run-requires : goal.run-run-requires
run-run-requires c =
    let a = c.args in
    let i = lent a.s.now a.d.now a.old.now a.budget a.out.now in
    let o = rw c.in-Ok.is at c.open_call.ensures in
    clear a.call i c.make_plan-plan.result o.number o.inputs c.make_plan-plan.ensures.1

pub conclude-requires : goal.conclude-requires
conclude-requires c =
    let a = c.args in
    let i = lent a.s.now a.d.now a.old.now a.budget a.out.now in
    let o = rw c.in-Ok.is at c.open_call.ensures in
    record {
      room = room a.call i c.make_plan-plan.result o.number o.inputs c.make_plan-plan.ensures.1;
      writes = ran-writes c.run-run.ensures (plan-count c.in-Ok.inputs.sheet c.make_plan-plan.ensures.0).1;
    }

pub returns-in-Ok : goal.returns-in-Ok
returns-in-Ok c =
    let a = c.args in
    let i = lent a.s.now a.d.now a.old.now a.budget a.out.now in
    let o = rw c.in-Ok.is at c.open_call.ensures in
    searched a.call i c.make_plan-plan.result o.number o.inputs c.make_plan-plan.ensures.1 (plan-count c.in-Ok.inputs.sheet c.make_plan-plan.ensures.0).1 c.run-run.ensures c.conclude.ensures
