-- `ticket_promises::beside` meets its contract: by the calls' contracts and the law `beside`. Assumes nothing.
use Rattle.answers.proofs.TicketLaws.{beside}
use Rattle.ticket_promises.proofs.beside.Goals as goal

pub returns : goal.returns
returns c = beside c.requires c.answer-answer.ensures c.check-check.ensures
