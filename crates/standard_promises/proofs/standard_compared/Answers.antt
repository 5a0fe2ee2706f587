-- `standard_promises::standard_compared` meets its contract: by the two calls' contracts and the law `compared`. Assumes nothing.
use Rattle.answers.proofs.FormingLaws.{compared}
use Rattle.standard_promises.proofs.standard_compared.Goals as goal

pub returns : goal.returns
returns c = compared _ _ _ _ c.standard-first.ensures c.standard-second.ensures
