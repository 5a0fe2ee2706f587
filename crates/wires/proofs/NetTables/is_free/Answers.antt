-- `wires::NetTables::is_free` meets its contract: the loop's invariant is that the entries passed find their wires free. Assumes nothing.
use native.Mathlib.Omega.{arith}
use Rattle.wires.proofs.WiresLaws.{free-none, free_all, entry-asked, free_more, free-not}
use Rattle.wires.proofs.NetTables.is_free.Goals as goal

pub loop-e-init : goal.loop-e-init
loop-e-init c = free-none

pub is_wire_held-requires : goal.is_wire_held-requires
is_wire_held-requires c =
    let a = entry-asked c.requires c.args.self.now.narrow c.loop-e.invariant c.loop-e-test.true c.args.self.now.table in
    (a.1, a.2, a.3)

pub returns-then-is_wire_held : goal.returns-then-is_wire_held
returns-then-is_wire_held c =
    free-not c.requires c.args.self.now.narrow c.loop-e.invariant c.loop-e-test.true c.is_wire_held.ensures c.if-is_wire_held.true

-- `first`: the first entry of a pass finds its wire free
pub returns-then-e-end : goal.returns-then-e-end
returns-then-e-end c =
    let first = free_more c.requires c.args.self.now.narrow c.loop-e.invariant c.loop-e-test.true c.is_wire_held.ensures c.if-is_wire_held.false in
    free_all first (omega arith)

pub is_wire_held-requires-in-loop-e : goal.is_wire_held-requires-in-loop-e
is_wire_held-requires-in-loop-e c =
    let first = free_more c.requires c.args.self.now.narrow c.loop-e.invariant c.loop-e-test.true c.is_wire_held.ensures c.if-is_wire_held.false in
    let a = entry-asked c.requires c.args.self.now.narrow first (omega arith) c.args.self.now.table in
    (a.1, a.2, a.3)

pub returns-then-is_wire_held-2 : goal.returns-then-is_wire_held-2
returns-then-is_wire_held-2 c =
    let first = free_more c.requires c.args.self.now.narrow c.loop-e.invariant c.loop-e-test.true c.is_wire_held.ensures c.if-is_wire_held.false in
    free-not c.requires c.args.self.now.narrow first (omega arith) c.is_wire_held-in-loop-e.ensures c.if-is_wire_held-2.true

pub loop-e-preserved : goal.loop-e-preserved
loop-e-preserved c =
    let first = free_more c.requires c.args.self.now.narrow c.loop-e.invariant c.loop-e-test.true c.is_wire_held.ensures c.if-is_wire_held.false in
    free_more c.requires c.args.self.now.narrow first (omega arith) c.is_wire_held-in-loop-e.ensures c.if-is_wire_held-2.false

pub returns : goal.returns
returns c = free_all c.loop-e.invariant c.loop-e-test.false
