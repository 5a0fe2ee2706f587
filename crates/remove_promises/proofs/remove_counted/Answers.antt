-- `remove_promises::remove_counted` meets its contract: by the call's contract and the laws `removes` and `takes-exactly`. Assumes nothing.
use Rattle.answers.proofs.ReadingLaws.{takes-exactly}
use Rattle.answers.proofs.RemovingLaws.{removes}
use Rattle.remove_promises.proofs.remove_counted.Goals as goal

pub returns : goal.returns
returns c = record { removes = removes c.remove.ensures; numbers = takes-exactly _ c.remove.ensures }
