-- `promises::relisted` meets its contract: by the two calls' contracts and the law `relisted`. Assumes nothing.
use Rattle.answers.proofs.PromisesLaws.{relisted}
use Rattle.promises.proofs.relisted.Goals as goal

pub returns : goal.returns
returns c = relisted c.requires c.answer-first.ensures c.answer-second.ensures
