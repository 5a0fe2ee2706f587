-- `promises::record_bytes` meets its contract: by Record's contract and the law `records`. Assumes nothing.
use Rattle.answers.proofs.ReadingLaws.{records}
use Rattle.promises.proofs.record_bytes.Goals as goal

pub returns : goal.returns
returns c = records c.args.s.now c.args.k c.record.ensures
