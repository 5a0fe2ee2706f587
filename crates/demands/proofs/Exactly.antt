-- What is promised of when each number comes (specs/Exactly.antt) holds: each field by its theorem. Assumes nothing.
use Rattle.reader.proofs.MeaningLaws.{read-exactly, record-exactly}
use Rattle.demands.proofs.NumberTheorems.{exactly}
use Rattle.demands.specs.Exactly.{Exactly}

pub gives_exactly : Exactly
gives_exactly = record { numbers = exactly; reads = read-exactly; records = record-exactly }
