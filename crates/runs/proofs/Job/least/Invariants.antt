use Rattle.marks.specs.Marks.{marked_in}
use Rattle.runs.specs.Runs.{plain_run}
use Rattle.runs.proofs.RepeatedLaws.{Repeated}
use Rattle.runs.proofs.RanLaws.{sheet_in}
use Rattle.runs.proofs.Job.least.Given as goal

abbrev pub invariant-loop-w : goal.invariant-loop-w
invariant-loop-w l = Repeated (plain_run l.h (sheet_in l.self) (marked_in l.self.plan.now.dead)) 1 33 l.self.budget l.w l.used
