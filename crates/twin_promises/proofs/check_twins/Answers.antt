-- `twin_promises::check_twins` meets its contract: by the two calls' contracts and the law `checked_on_twin`. Assumes nothing.
use Rattle.answers.proofs.TwinningLaws.{checked_on_twin}
use Rattle.twin_promises.proofs.check_twins.Goals as goal

pub returns : goal.returns
returns c = checked_on_twin _ _ _ _ c.check-first.ensures c.check-second.ensures
