use Rattle.defects.proofs.DefectsLaws.{MarkedBelow}
use Rattle.defects.proofs.mark_items.Given as goal

abbrev pub invariant-loop-k : goal.invariant-loop-k
invariant-loop-k l = MarkedBelow l.d l.dead l.k
