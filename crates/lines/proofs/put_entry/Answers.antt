-- `lines::put_entry` meets its contract: a blank and the channel, and a full stop and the track behind them. Assumes nothing.
use Rattle.decimal.proofs.PutLaws.{room_before, room_after, appended_then}
use Rattle.lines.specs.Lines.{entry_text}
use Rattle.lines.proofs.put_entry.Goals as goal

pub put_field-requires : goal.put_field-requires
unfolding entry_text
put_field-requires c = room_before _ c.requires

pub put_field-requires-2 : goal.put_field-requires-2
unfolding entry_text
put_field-requires-2 c = room_after _ c.put_field.ensures c.requires

pub returns : goal.returns
unfolding entry_text
returns c = appended_then c.requires c.put_field.ensures c.put_field-2.ensures
