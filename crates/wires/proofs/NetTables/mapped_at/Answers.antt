-- `wires::NetTables::mapped_at` meets its contract: the place of the track map and the track has it. Assumes nothing.
use native.Mathlib.Omega.{arith}
use Rattle.wires.proofs.TablesLaws.{mapped_by-lt, map_table-at}
use Rattle.wires.proofs.NetTables.mapped_at.Goals as goal

pub returns : goal.returns
returns c =
    let a = c.args in
    let f = c.requires in
    let found = map_table-at a.self.now.width a.self.now.tracks.now a.code a.t a.self.now.table f in
    let low = mapped_by-lt a.self.now.width a.code a.t f.known f.track in (found, omega arith)
