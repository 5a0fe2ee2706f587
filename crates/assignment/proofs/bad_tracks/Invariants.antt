use mathlib.Core.Path.{◌≡◌}
use lib.ListN.{length}
use Rattle.bounded.proofs.BoundedLaws.{Passed}
use Rattle.marks.specs.Marks.{marked_in}
use Rattle.switchbox.specs.SwitchBox.{connected}
use Rattle.netlist.specs.Netlist.{nets}
use Rattle.nettracks.specs.Facts.{tracks_pass}
use Rattle.assignment.specs.Assignment.{first_byte}
use Rattle.assignment.proofs.AssignmentLaws.{net_passes}
use Rattle.assignment.proofs.bad_tracks.Given as goal

abbrev pub invariant-loop-k : goal.invariant-loop-k
invariant-loop-k l =
    let ns = nets l.netlist.bytes.now in
    let w = l.netlist.trailer.width in
    (l.at ≡ first_byte ns l.k) × Passed (length ns) (net_passes l.partial (tracks_pass l.test (connected l.inputs.boxes.fabric w) (marked_in l.inputs.dead) w) ns l.b) l.k
