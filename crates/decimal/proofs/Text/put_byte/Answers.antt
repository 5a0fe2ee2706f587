-- `decimal::Text::put_byte` meets its contract. Assumes nothing.
use Rattle.std.proofs.Common.{refl, arith}
use Rattle.decimal.proofs.PutLaws.{put_byte}
use Rattle.decimal.proofs.Text.put_byte.Goals as goal

pub returns : goal.returns
returns c = record { put = put_byte (omega arith); same = refl }
