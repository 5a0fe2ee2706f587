-- `remove_promises::remove_as_refit` meets its contract: by the two calls' contracts and the law `read_alike`. Assumes nothing.
use Rattle.answers.proofs.RemovingLaws.{read_alike}
use Rattle.remove_promises.proofs.remove_as_refit.Goals as goal

pub returns : goal.returns
returns c = read_alike c.answer-answer.ensures c.remove-removed.ensures
