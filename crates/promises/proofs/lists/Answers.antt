-- `promises::lists` meets its contract: by the two calls' contracts and the law `two_lists`. Assumes nothing.
use Rattle.answers.proofs.PromisesLaws.{two_lists}
use Rattle.promises.proofs.lists.Goals as goal

pub returns : goal.returns
returns c = two_lists c.requires c.answer-first.ensures c.answer-second.ensures
