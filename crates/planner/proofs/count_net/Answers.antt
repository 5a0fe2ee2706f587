-- `planner::count_net` meets its contract: the loop's invariant is that the channels of the entries passed have one more. A load is below
-- 64 where it is raised, since the net's channels differ. Assumes nothing.
use native.Mathlib.Omega.{arith}
use Rattle.net.specs.Read.{net_read}
use Rattle.planner.proofs.DensityLaws.{one_more-none, one_more-more}
use Rattle.planner.proofs.count_net.Goals as goal

pub loop-i-init : goal.loop-i-init
loop-i-init c = one_more-none _ _

pub loop-i-preserved : goal.loop-i-preserved
loop-i-preserved c =
    let r = c.args.net in
    let l = c.loop-i in
    rw c.channel-c.ensures.0 (one_more-more (net_read r) c.args.load.now c.requires l.i (omega arith) l.load l.auto.load l.invariant)
