-- `twin_promises::standard_twins` meets its contract: by the two calls' contracts and the law `formed_on_twin`. Assumes nothing.
use Rattle.answers.proofs.TwinningLaws.{formed_on_twin}
use Rattle.twin_promises.proofs.standard_twins.Goals as goal

pub returns : goal.returns
returns c = formed_on_twin _ _ _ _ c.standard-first.ensures c.standard-second.ensures
