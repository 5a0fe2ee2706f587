use Rattle.net.specs.Read.{net_read}
use Rattle.planner.specs.Filled.{ChannelsFrom}
use Rattle.planner.proofs.channels_from.Given as goal

abbrev pub invariant-loop-i : goal.invariant-loop-i
invariant-loop-i l = ChannelsFrom (net_read l.net) l.i l.e l.initial.chan l.chan
