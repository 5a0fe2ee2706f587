-- `decimal::Text::put_field` meets its contract: a word, and a number behind it. Assumes nothing.
use Rattle.decimal.specs.Decimal.{field}
use Rattle.decimal.proofs.PutLaws.{room_before, room_after, appended_then}
use Rattle.decimal.proofs.Text.put_field.Goals as goal

pub put_word-requires : goal.put_word-requires
unfolding field
put_word-requires c = room_before _ c.requires

pub put_decimal-requires : goal.put_decimal-requires
unfolding field
put_decimal-requires c = room_after _ c.put_word.ensures c.requires

pub returns : goal.returns
unfolding field
returns c = appended_then c.requires c.put_word.ensures c.put_decimal.ensures
