-- `promises::check_numbers` meets its contract: by Check's contract and the law `checks`. Assumes nothing.
use Rattle.answers.proofs.ReadingLaws.{checks}
use Rattle.promises.proofs.check_numbers.Goals as goal

pub returns : goal.returns
returns c =
    let a = c.args in
    let r = checks a.s.now a.d.now a.ticket.now c.check.ensures in
    record { uses = (r.gave, r.uses); exactly = r }
