use mathlib.Core.List.{List}
use Prim.Native.Nat.{ℕ}
use Rattle.wires.specs.NetsOf.{nets_of}
use Rattle.wires.specs.Wires.{LaidOn}
use Rattle.wires.proofs.LaidLaws.{LaidUpTo}
use Rattle.wires.proofs.NetTables.unlay.Given as goal

abbrev pub invariant-loop-e : goal.invariant-loop-e
invariant-loop-e l = let p = nets_of l.self in
    (before : List ℕ) → LaidOn p before l.initial.taken l.k l.t → LaidUpTo p before l.taken l.k l.t l.e
