use mathlib.Core.Path.{◌≡◌}
use Prim.Native.Nat.{◌*◌, ◌≤◌}
use lib.ListN.{length}
use Rattle.netlist.specs.Netlist.{nets}
use Rattle.assignment.specs.Assignment.{first_byte}
use Rattle.planner.proofs.FilledLaws.{FilledTo}
use Rattle.planner.proofs.first_bytes.Given as goal

abbrev pub invariant-loop-j : goal.invariant-loop-j
invariant-loop-j l =
    let ns = nets l.sheet.netlist.bytes.now in
    (l.at ≡ first_byte ns l.j) × (l.at ≤ 32 * l.j) × (length l.first ≡ 64) × FilledTo (first_byte ns) l.first l.j
