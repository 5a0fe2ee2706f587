use Rattle.planner.specs.Chosen.{chosen_nets}
use Rattle.planner.proofs.DensityLaws.{CountedTo}
use Rattle.planner.proofs.Chosen.channel_loads.Given as goal

abbrev pub invariant-loop-k : goal.invariant-loop-k
invariant-loop-k l = CountedTo (chosen_nets l.self) l.k l.load
