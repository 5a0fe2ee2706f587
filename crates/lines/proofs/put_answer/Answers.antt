-- `lines::put_answer` meets its contract: its fields and the line feed, one behind the other. Assumes nothing.
use Rattle.decimal.proofs.PutLaws.{room_before, room_after, appended_then}
use Rattle.lines.specs.Lines.{answer_line}
use Rattle.lines.proofs.put_answer.Goals as goal

pub put_field-requires : goal.put_field-requires
unfolding answer_line
put_field-requires c = room_before _ (room_before _ (room_before _ c.requires))

pub put_field-requires-2 : goal.put_field-requires-2
unfolding answer_line
put_field-requires-2 c = room_after _ c.put_field.ensures (room_before _ (room_before _ c.requires))

pub put_field-requires-3 : goal.put_field-requires-3
unfolding answer_line
put_field-requires-3 c =
    let r = room_before _ c.requires in
    room_after _ (appended_then (room_before _ r) c.put_field.ensures c.put_field-2.ensures) r

pub put_byte-requires : goal.put_byte-requires
unfolding answer_line
put_byte-requires c =
    let r = room_before _ c.requires in
    room_after _ (appended_then r (appended_then (room_before _ r) c.put_field.ensures c.put_field-2.ensures) c.put_field-3.ensures) c.requires

pub returns : goal.returns
unfolding answer_line
returns c =
    let r = room_before _ c.requires in
    appended_then c.requires
    (appended_then r (appended_then (room_before _ r) c.put_field.ensures c.put_field-2.ensures) c.put_field-3.ensures)
    c.put_byte.ensures
