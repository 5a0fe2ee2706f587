use mathlib.Core.Path.{◌≡◌}
use Prim.Native.Nat.{◌*◌, ◌≤◌}
use lib.ListN.{length}
use Rattle.assignment.specs.Assignment.{first_byte}
use Rattle.planner.specs.Chosen.{chosen_nets}
use Rattle.planner.proofs.FilledLaws.{Listed}
use Rattle.planner.proofs.Chosen.entries.Given as goal

abbrev pub invariant-loop-k : goal.invariant-loop-k
invariant-loop-k l = (l.e ≡ first_byte (chosen_nets l.self) l.k) × (l.e ≤ 32 * l.k) × (length l.start ≡ 65) × Listed (chosen_nets l.self) l.k l.start l.chan
