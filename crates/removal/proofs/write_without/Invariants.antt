use mathlib.Core.Path.{◌≡◌}
use Rattle.bounded.specs.Bounded.{joined}
use Rattle.netlist.specs.Netlist.{nets}
use Rattle.assignment.specs.Assignment.{first_byte}
use Rattle.routing.proofs.OverwriteLaws.{PartsWritten}
use Rattle.routing.proofs.RemoveLaws.{left_part}
use Rattle.removal.proofs.write_without.Given as goal

abbrev pub invariant-loop-k : goal.invariant-loop-k
invariant-loop-k l =
    let ns = nets l.sheet.netlist.bytes.now in
    (l.at ≡ first_byte ns l.k) × PartsWritten (λ j. joined j (left_part ns l.x l.ticket)) l.initial.out l.out l.k l.at
