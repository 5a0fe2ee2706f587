use Prim.Native.Nat.{◌+◌}
use Rattle.runs.proofs.RepeatedLaws.{Repeated}
use Rattle.runs.proofs.RoundsLaws.{round_on}
use Rattle.runs.proofs.Job.refit.Given as goal

abbrev pub invariant-loop-d : goal.invariant-loop-d
invariant-loop-d l = Repeated (round_on l.self.plan.now l.maps l.had l.w l.self.plan.now.count) 0 (l.placed + 1) l.self.budget l.d l.used
