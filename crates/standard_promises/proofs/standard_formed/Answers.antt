-- `standard_promises::standard_formed` meets its contract: by the call's contract and the laws `forms` and `forms-exactly`. Assumes nothing.
use Rattle.answers.proofs.ReadingLaws.{forms-exactly}
use Rattle.answers.proofs.FormingLaws.{forms}
use Rattle.standard_promises.proofs.standard_formed.Goals as goal

pub returns : goal.returns
returns c = record { forms = forms _ _ c.standard.ensures; numbers = forms-exactly _ _ c.standard.ensures }
