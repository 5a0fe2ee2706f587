-- `promises::budgets` meets its contract: by the two calls' contracts and the law `raised`. Assumes nothing.
use Rattle.answers.proofs.PromisesLaws.{raised}
use Rattle.promises.proofs.budgets.Goals as goal

pub returns : goal.returns
returns c =
    let p = c.requires in
    raised p.0 p.1 c.answer-first.ensures c.answer-second.ensures
