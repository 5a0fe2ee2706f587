-- `runs::Job::least` meets its contract: the loop's invariant is that the widths from w on are left, with what is left of the budget. Assumes
-- nothing.
use native.Mathlib.Omega.{arith}
use Rattle.netsearch.specs.PlainSearch.{least_search}
use Rattle.runs.proofs.RepeatedLaws.{repeated-first}
use Rattle.runs.proofs.RanLaws.{ran-next, ran_ends, ran-all}
use Rattle.runs.proofs.Job.least.Goals as goal

pub loop-w-init : goal.loop-w-init
loop-w-init c = repeated-first _ 1 33 _ (omega arith)

pub search_at-r-requires : goal.search_at-r-requires
search_at-r-requires c =
    record { within = omega (arith, c.loop-w.invariant.within); le_w = (omega arith, omega (arith, c.loop-w-test.true)) }

pub returns-in_default : goal.returns-in_default
unfolding least_search
returns-in_default c =
    ran_ends c.loop-w.invariant (omega (arith, c.loop-w-test.true)) c.search_at-r.ensures c.in_default.not-Exhausted

pub loop-w-preserved : goal.loop-w-preserved
loop-w-preserved c = ran-next c.loop-w.invariant (omega (arith, c.loop-w-test.true)) c.search_at-r.ensures _ c.in-Exhausted.is

pub returns : goal.returns
unfolding least_search
returns c = ran-all c.loop-w.invariant (omega (arith, c.loop-w-test.false))
