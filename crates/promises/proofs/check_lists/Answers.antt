-- `promises::check_lists` meets its contract: by the two calls' contracts and the law `checked_twice`. Assumes nothing.
use Rattle.answers.proofs.PromisesLaws.{checked_twice}
use Rattle.promises.proofs.check_lists.Goals as goal

pub returns : goal.returns
returns c = checked_twice _ _ _ _ c.check-first.ensures c.check-second.ensures
