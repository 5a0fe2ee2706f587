-- `twin_promises::read_twins` meets its contract: by the two calls' contracts and the law `read_on_twin`. Assumes nothing.
use Rattle.answers.proofs.TwinningLaws.{read_on_twin}
use Rattle.twin_promises.proofs.read_twins.Goals as goal

pub returns : goal.returns
returns c = read_on_twin _ _ c.read-first.ensures c.read-second.ensures
