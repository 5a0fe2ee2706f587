-- What is promised of the rim (specs/Rim.antt) holds: each field by its theorem. Assumes nothing.
use Rattle.grid.proofs.RimLaws.{side-channel, end-unique, rim-exactly}
use Rattle.switchbox.proofs.SwitchBoxLaws.{rim-straight, inner-table}
use Rattle.routing.proofs.RimTheorems.{legal-rim}
use Rattle.demands.specs.Rim.{Rim}

pub rim : Rim
rim = record {
  straight = rim-straight;
  inner_table = inner-table;
  legal = legal-rim;
  side_channel = side-channel;
  end_unique = λ g z. end-unique z;
  exactly = rim-exactly;
}
