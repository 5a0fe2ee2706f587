-- What is promised of the box table and of boxes by parameters (specs/Boxes.antt) holds: each field by its theorem. Assumes nothing.
use Rattle.switchbox.proofs.SwitchBoxLaws.{partners-hold}
use Rattle.switchbox.proofs.SwitchBoxLaws.{switch-remainder}
use Rattle.switchbox.proofs.GeneratorLaws.{table-partners, generated-table, published-twin, generated-number, generated-nothing}
use Rattle.demands.specs.Boxes.{Boxes}

pub boxes : Boxes
boxes = record {
  partners = partners-hold;
  row_remainder = switch-remainder;
  generated_table = generated-table;
  generated_number = generated-number;
  generated_refused = generated-nothing;
  table_partners = table-partners;
  published_rows = published-twin;
}
