use mathlib.Core.Path.{◌≡◌}
use mathlib.Core.Bool.{false}
use Rattle.netlist.specs.Netlist.{nets}
use Rattle.assignment.specs.Assignment.{first_byte}
use Rattle.assignment.proofs.WireLaws.{Marked}
use Rattle.assignment.proofs.wire_conflict.Given as goal

abbrev pub invariant-loop-i : goal.invariant-loop-i
invariant-loop-i l = (l.found ≡ false) × Marked l.partial (nets l.netlist.bytes.now) l.b l.k l.i l.taken

abbrev pub invariant-nets : goal.invariant-nets
invariant-nets l = (l.at ≡ first_byte (nets l.netlist.bytes.now) l.k) × (l.found ≡ false) × Marked l.partial (nets l.netlist.bytes.now) l.b l.k 0 l.taken
