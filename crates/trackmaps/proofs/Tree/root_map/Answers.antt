-- `trackmaps::Tree::root_map` meets its contract: the loop's invariant is that `up` has climbed from the home to entry i. Assumes nothing.
use Prim.Native.Nat.{◌<◌}
use native.Mathlib.Omega.{arith}
use Rattle.switchbox.specs.SwitchBox.{connected}
use Rattle.grid.proofs.GridLaws.{meet-sym}
use Rattle.net.specs.Read.{net_read}
use Rattle.trackmaps.proofs.TrackMapsLaws.{tree-accepted, climbed-none, climbed-more, climbed-all}
use Rattle.trackmaps.proofs.Tree.root_map.Goals as goal

pub loop-i-init : goal.loop-i-init
loop-i-init c =
    let s = c.args.self.switches in
    let up = climbed-none (connected s.boxes.fabric s.width) s.width (net_read c.args.self.record) c.args.self.low in
    (c.home_entry-i.ensures.1, rw c.home_entry-i.ensures.0 up)

pub edge_map-requires : goal.edge_map-requires
edge_map-requires c =
    let G = tree-accepted c.args.self in
    let m = c.loop-i in
    let l : 0 < m.i = omega arith in
    let e = G.earlier m.i l m.invariant.0 in
    let down = G.meets m.i l m.invariant.0 in
    let up = meet-sym c.args.self.switches.boxes.fabric.grid _ _ down in
    let p = c.parent-p.ensures.0 in
    record { places = (omega arith, omega arith); j_value = cc }

pub loop-i-smaller : goal.loop-i-smaller
loop-i-smaller c =
    let G = tree-accepted c.args.self in
    let m = c.loop-i in
    omega (arith, G.earlier m.i (omega arith) m.invariant.0)

pub loop-i-preserved : goal.loop-i-preserved
loop-i-preserved c =
    let G = tree-accepted c.args.self in
    let m = c.loop-i in
    let p = c.parent-p.ensures.0 in
    let l : 0 < m.i = omega arith in
    let e = G.earlier m.i l m.invariant.0 in
    (omega arith, climbed-more _ _ _ _ G l m.invariant.0 p m.invariant.1 c.edge_map.ensures c.compose-up.ensures)

pub returns : goal.returns
returns c =
    let G = tree-accepted c.args.self in
    climbed-all _ _ _ _ G (rw c.loop-i-test.false at c.loop-i.invariant.1)
