-- `remove_promises::refit_and_back` meets its contract: by the calls' contracts and the law `way_back`. Assumes nothing.
use mathlib.Core.Path.{refl}
use Rattle.routing.specs.Outcomes.{refit, lent}
use Rattle.answers.proofs.TicketLaws.{writes-whole}
use Rattle.answers.proofs.RemovingLaws.{way_back}
use Rattle.remove_promises.proofs.refit_and_back.Goals as goal

pub returns-then-number-ne0 : goal.returns-then-number-ne0
returns-then-number-ne0 c = way_back c.answer-answer.ensures (λ e. absurd (c.if-number-ne0.true e)) (λ n. (refl, refl))

pub remove_written-removed-requires : goal.remove_written-removed-requires
remove_written-removed-requires c =
    let a = c.args in
    writes-whole refit (lent a.s.now a.d.now a.old.now a.budget a.new.now) c.answer-answer.ensures c.if-number-ne0.false

pub returns : goal.returns
returns c =
    way_back c.answer-answer.ensures (λ _. c.remove_written-removed.ensures) (λ n. absurd (n c.if-number-ne0.false))
