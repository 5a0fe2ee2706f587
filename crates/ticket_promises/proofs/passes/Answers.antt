-- `ticket_promises::passes` meets its contract: by the calls' contracts and the law `passes`. Assumes nothing.
use Rattle.routing.specs.Outcomes.{lent}
use Rattle.answers.proofs.TicketLaws.{writes-whole, passes}
use Rattle.ticket_promises.proofs.passes.Goals as goal

pub check_written-check-requires : goal.check_written-check-requires
check_written-check-requires c =
    let a = c.args in
    writes-whole a.call (lent a.s.now a.d.now a.old.now a.budget a.out.now) c.answer-answer.ensures c.if-number-ne0.false

pub returns : goal.returns
returns c =
    let p = c.requires in
    passes p.0 p.1 c.answer-answer.ensures (λ _. c.check_written-check.ensures)
