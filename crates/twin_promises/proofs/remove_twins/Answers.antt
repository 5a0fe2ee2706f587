-- `twin_promises::remove_twins` meets its contract: by the two calls' contracts and the law `removed_on_twin`. Assumes nothing.
use Rattle.answers.proofs.TwinningLaws.{removed_on_twin}
use Rattle.twin_promises.proofs.remove_twins.Goals as goal

pub returns : goal.returns
returns c = removed_on_twin c.requires c.remove-first.ensures c.remove-second.ensures
