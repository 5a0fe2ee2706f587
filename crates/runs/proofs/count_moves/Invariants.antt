use mathlib.Core.Path.{◌≡◌}
use Prim.Native.Nat.{◌≤◌}
use Rattle.tracksearch.specs.Plan.{moves_from}
use Rattle.runs.proofs.count_moves.Given as goal

abbrev pub invariant-loop-k : goal.invariant-loop-k
invariant-loop-k l = (l.moved ≡ moves_from l.old l.homes l.k) × (l.moved ≤ l.k)
