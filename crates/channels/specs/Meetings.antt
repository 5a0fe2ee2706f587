-- Where two channels meet, as the code has it. Definitions only. Assumes nothing.
use Rattle.std.specs.Prelude.{true, false, Option, Some, None}
use Rattle.grid.specs.Grid.{Meeting}
use Rattle.channels.specs.declared.Meeting.{Meeting as Met}

-- the box and the sides of it, where the channels meet
abbrev pub where_met : Meeting → Option Met
where_met m = elim m.met [ true ↦ Some (record { at = m.at; from = m.from; to = m.to }) | false ↦ None ]
