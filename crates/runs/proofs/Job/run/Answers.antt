-- `runs::Job::run` meets its contract: each arm gives its call's run. Assumes nothing.
use mathlib.Core.Path.{◌≡◌, sym, subst}
use mathlib.Core.List.{List, []}
use Prim.Native.Nat.{ℕ}
use Rattle.marks.specs.Marks.{marked_in}
use Rattle.routing.specs.declared.Call.{Call}
use Rattle.routing.specs.Outcomes.{lent, moved_by}
use Rattle.tracksearch.specs.declared.Ended.{Ended}
use Rattle.runs.specs.declared.Routed.{Routed}
use Rattle.runs.specs.declared.Job.{Job}
use Rattle.runs.specs.Runs.{old_number, run_on, Ran}
use Rattle.runs.proofs.RanLaws.{sheet_in}
use Rattle.runs.proofs.Job.run.Goals as goal

-- Refit's old assignment is one that no number refuses
pub refit-requires : goal.refit-requires
refit-requires c =
    let j = c.args.self in
    subst (λ (x : Call). old_number x (sheet_in j) (marked_in j.plan.now.dead) c.args.old.now ≡ 0) c.in-Refit.is c.requires

-- what a run of the arm's call gives is of the call
abbrev RanAs : Job → List ℕ → Ended Routed → Call → Type 0
RanAs j old e x =
    Ran (sheet_in j) j.plan.now j.budget j.budget (run_on x (sheet_in j) (marked_in j.plan.now.dead) old) (moved_by x (lent (sheet_in j) [] old 0 [])) e

pub returns-in-Route : goal.returns-in-Route
unfolding moved_by
returns-in-Route c = subst (RanAs c.args.self c.args.old.now c.route.result) (sym c.in-Route.is) c.route.ensures

pub returns-in-Least : goal.returns-in-Least
unfolding moved_by
returns-in-Least c = subst (RanAs c.args.self c.args.old.now c.least.result) (sym c.in-Least.is) c.least.ensures

pub returns-in-Refit : goal.returns-in-Refit
returns-in-Refit c = subst (RanAs c.args.self c.args.old.now c.refit.result) (sym c.in-Refit.is) c.refit.ensures
