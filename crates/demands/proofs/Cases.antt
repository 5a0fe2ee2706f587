-- What is promised of the marked cases (specs/Cases.antt) holds. Assumes nothing.
use Rattle.routing.proofs.MarkedCasesLaws.{marked-cases}
use Rattle.demands.specs.Cases.{Cases}

pub cases : Cases
cases = record { marked = marked-cases }
