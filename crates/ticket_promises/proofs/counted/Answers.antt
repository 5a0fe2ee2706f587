-- `ticket_promises::counted` meets its contract: by the call's contract and the laws `counted` and `answers-exactly`. Assumes nothing.
use Rattle.answers.proofs.ReadingLaws.{answers-exactly}
use Rattle.answers.proofs.TicketLaws.{counted}
use Rattle.ticket_promises.proofs.counted.Goals as goal

pub returns : goal.returns
returns c = record { counted = counted c.answer.ensures; numbers = answers-exactly _ _ c.answer.ensures }
