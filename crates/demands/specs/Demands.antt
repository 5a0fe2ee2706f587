-- All that is promised (00, demands 1 to 3; 01; 02, M-100 to M-106), over all byte lists, net numbers and budgets: a group for each subject. In each
-- group "asked for" is what a document says, quoted, and "ours" what is promised beside it. What the words mean: Results.antt, Equivalent.antt and
-- Remove.antt in specs/ of routing, Standard.antt and Twins.antt in specs/ of canonical. Definitions only; that all of it holds:
-- proofs/Demands.antt. Assumes nothing.
use Rattle.demands.specs.Chip.{Chip}
use Rattle.demands.specs.Boxes.{Boxes}
use Rattle.demands.specs.Rim.{Rim}
use Rattle.demands.specs.Demand1.{Demand1}
use Rattle.demands.specs.Demand2.{Demand2}
use Rattle.demands.specs.Demand3.{Demand3}
use Rattle.demands.specs.Remove.{Remove}
use Rattle.demands.specs.Standard.{Standard}
use Rattle.demands.specs.DeadWires.{DeadWires}
use Rattle.demands.specs.Marks.{Marks}
use Rattle.demands.specs.Cases.{Cases}

pub record Demands : Type 1 where
  -- 01 "Chip and boxes": channels, the box table, and 02, M-102: boxes by parameters, M-104: the rim
  pub chip : Chip
  pub boxes : Boxes
  pub rim : Rim
  -- 00: refusals and what is written; right tickets and trials; relistings, "unroutable" and budgets
  pub demand1 : Demand1
  pub demand2 : Demand2
  pub demand3 : Demand3
  -- 02: M-100, M-101, M-105, M-106
  pub remove : Remove
  pub standard : Standard
  pub dead_wires : DeadWires
  pub marks : Marks
  -- 01 "Sheets to try"
  pub cases : Cases
