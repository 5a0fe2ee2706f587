use Rattle.wires.specs.NetsOf.{nets_of}
use Rattle.wires.proofs.LaidLaws.{LaidUpTo}
use Rattle.wires.proofs.NetTables.lay.Given as goal

abbrev pub invariant-loop-e : goal.invariant-loop-e
invariant-loop-e l = LaidUpTo (nets_of l.self) l.initial.taken l.taken l.k l.t l.e
