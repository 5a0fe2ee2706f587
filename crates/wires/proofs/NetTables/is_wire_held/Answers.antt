-- `wires::NetTables::is_wire_held` meets its contract: the track looked up is the one that the track map takes t to. Assumes nothing.
use mathlib.Core.Path.{ap, ◌∙◌}
use lib.ListN.{get_or}
use Rattle.marks.specs.Marks.{held_at}
use Rattle.wires.proofs.NetTables.is_wire_held.Goals as goal

pub returns : goal.returns
returns c =
    let a = c.args in
    c.is_held.ensures ∙ ap (held_at a.taken.now (get_or a.self.now.chan.now a.e 0)) c.mapped_at-x.ensures.0
