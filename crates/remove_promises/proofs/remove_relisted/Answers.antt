-- `remove_promises::remove_relisted` meets its contract: by the two calls' contracts and the law `removed_alike`. Assumes nothing.
use Rattle.answers.proofs.RemovingLaws.{removed_alike}
use Rattle.remove_promises.proofs.remove_relisted.Goals as goal

pub returns : goal.returns
returns c = removed_alike c.requires c.remove-first.ensures c.remove-second.ensures
