use Rattle.net.specs.Read.{net_read}
use Rattle.planner.specs.Filled.{OneMore}
use Rattle.planner.proofs.count_net.Given as goal

abbrev pub invariant-loop-i : goal.invariant-loop-i
invariant-loop-i l = OneMore (net_read l.net) l.i l.initial.load l.load
