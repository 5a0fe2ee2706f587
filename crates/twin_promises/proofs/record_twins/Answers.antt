-- `twin_promises::record_twins` meets its contract: by the two calls' contracts and the law `recorded_on_twin`. Assumes nothing.
use Rattle.answers.proofs.TwinningLaws.{recorded_on_twin}
use Rattle.twin_promises.proofs.record_twins.Goals as goal

pub returns : goal.returns
returns c = recorded_on_twin _ _ _ c.part_of-first.ensures.0 c.part_of-second.ensures.0
