-- `twin_promises::call_twins` meets its contract: by the two calls' contracts and the law `answered_on_twin`. Assumes nothing.
use Rattle.answers.proofs.TwinningLaws.{answered_on_twin}
use Rattle.twin_promises.proofs.call_twins.Goals as goal

pub returns : goal.returns
returns c = answered_on_twin c.requires c.answer-first.ensures c.answer-second.ensures
