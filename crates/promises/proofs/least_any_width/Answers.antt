-- `promises::least_any_width` meets its contract: by the two calls' contracts and the law `any_width`. Assumes nothing.
use Rattle.answers.proofs.PromisesLaws.{any_width}
use Rattle.promises.proofs.least_any_width.Goals as goal

pub returns : goal.returns
returns c =
    let p = c.requires in
    any_width p.0 p.1 c.answer-first.ensures c.answer-second.ensures
