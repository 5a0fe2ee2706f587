-- `remove_promises::remove_judged` meets its contract: by the calls' contracts and the law `no_worse`. Assumes nothing.
use mathlib.Core.List.{[]}
use Rattle.routing.specs.Outcomes.{lent}
use Rattle.answers.proofs.RemovingLaws.{took-whole, no_worse}
use Rattle.remove_promises.proofs.remove_judged.Goals as goal

pub judge_written-after-requires : goal.judge_written-after-requires
judge_written-after-requires c =
    let a = c.args in
    took-whole (lent a.s.now [] a.ticket.now 0 a.out.now) a.net c.remove-removed.ensures c.if-removed-ne0.false

pub returns : goal.returns
returns c =
    let a = c.args in
    no_worse (lent a.s.now [] a.ticket.now 0 a.out.now) a.d.now a.net c.remove-removed.ensures c.number_on-before.ensures
    (λ _. c.judge_written-after.ensures)
    (λ n. absurd (n c.if-removed-ne0.false))
