-- What is promised (specs/Demands.antt) holds: each group by its value. Assumes nothing.
use Rattle.demands.specs.Demands.{Demands}
use Rattle.demands.proofs.Chip.{chip}
use Rattle.demands.proofs.Boxes.{boxes}
use Rattle.demands.proofs.Rim.{rim}
use Rattle.demands.proofs.Demand1.{demand1}
use Rattle.demands.proofs.Demand2.{demand2}
use Rattle.demands.proofs.Demand3.{demand3}
use Rattle.demands.proofs.Remove.{remove}
use Rattle.demands.proofs.Standard.{standard}
use Rattle.demands.proofs.DeadWires.{dead_wires}
use Rattle.demands.proofs.Marks.{marks}
use Rattle.demands.proofs.Cases.{cases}

pub demands : Demands
demands = record {
  chip = chip;
  boxes = boxes;
  rim = rim;
  demand1 = demand1;
  demand2 = demand2;
  demand3 = demand3;
  remove = remove;
  standard = standard;
  dead_wires = dead_wires;
  marks = marks;
  cases = cases;
}
