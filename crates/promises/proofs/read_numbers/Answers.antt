-- `promises::read_numbers` meets its contract: by Read's contract and the law `reads`. Assumes nothing.
use Rattle.answers.proofs.ReadingLaws.{reads}
use Rattle.promises.proofs.read_numbers.Goals as goal

pub returns : goal.returns
returns c =
    let r = reads c.args.s.now c.read.ensures in
    record { uses = (r.gave, r.uses); exactly = r }
