use Prim.Native.Nat.{◌-◌}
use Rattle.wires.specs.NetsOf.{nets_of}
use Rattle.wires.proofs.WiresLaws.{FreeTo}
use Rattle.wires.proofs.NetTables.is_free.Given as goal

abbrev pub invariant-loop-e : goal.invariant-loop-e
invariant-loop-e l = FreeTo (nets_of l.self) l.taken l.k l.t l.e

abbrev pub decreases-loop-e : goal.decreases-loop-e
decreases-loop-e l = l.end - l.e
