use mathlib.Core.Path.{◌≡◌}
use Prim.Native.Nat.{◌-◌, ◌*◌}
use lib.ListN.{length}
use Rattle.wires.specs.Wires.{MapTableTo}
use Rattle.wires.proofs.map_table.Given as goal

abbrev pub invariant-loop-i : goal.invariant-loop-i
invariant-loop-i l = (length l.tracks ≡ 2048) × MapTableTo l.w l.i l.tracks

abbrev pub decreases-loop-i : goal.decreases-loop-i
decreases-loop-i l = 64 * l.w - l.i
