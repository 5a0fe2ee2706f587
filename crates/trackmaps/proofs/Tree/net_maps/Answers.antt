-- `trackmaps::Tree::net_maps` meets its contract: the loop's invariant is that the bytes of the entries passed are written. Assumes nothing.
use Prim.Native.Nat.{◌<◌}
use native.Mathlib.Omega.{arith}
use Rattle.switchbox.proofs.SwitchBoxLaws.{fabric-connects}
use Rattle.net.specs.Net.{size}
use Rattle.net.specs.Read.{net_read}
use Rattle.trackmaps.proofs.TrackMapsLaws.{tree-accepted, written_none, written-more, written-map, written_all, map-root, map-down}
use Rattle.trackmaps.proofs.Tree.net_maps.Goals as goal

pub bounds-out-0 : goal.bounds-out-0
bounds-out-0 c = let G = tree-accepted c.args.self in omega (arith, G.filled)

pub loop-i-init : goal.loop-i-init
loop-i-init c =
    let G = tree-accepted c.args.self in
    let k = c.code_of in
    let a = map-root _ _ _ _ G c.root_map.ensures in
    (omega arith, written-more _ _ _ c.args.out.now 0 k.result G.filled (written_none _ _ _ _ c.requires) a k.ensures)

pub edge_map-down-requires : goal.edge_map-down-requires
edge_map-down-requires c =
    let G = tree-accepted c.args.self in
    let m = c.loop-i in
    let h : m.i < size (net_read c.args.self.record) = omega arith in
    let e = G.earlier m.i m.invariant.0 h in
    let down = G.meets m.i m.invariant.0 h in
    let p = c.parent-p.ensures.0 in
    record { places = (omega arith, h); j_value = cc }

pub bounds-out-p : goal.bounds-out-p
bounds-out-p c =
    let G = tree-accepted c.args.self in
    let m = c.loop-i in
    omega (arith, G.earlier m.i m.invariant.0 (omega arith))

pub compose-requires : goal.compose-requires
compose-requires c =
    let G = tree-accepted c.args.self in
    let m = c.loop-i in
    let e = G.earlier m.i m.invariant.0 (omega arith) in
    let a = c.edge_map-down.ensures in
    let b = written-map _ _ _ _ (omega arith) m.invariant.1 c.map_of.ensures in
    (record { sign = a.sign; low = a.low }, record { sign = b.sign; low = b.low }, c.args.self.switches.narrow)

pub loop-i-preserved : goal.loop-i-preserved
loop-i-preserved c =
    let G = tree-accepted c.args.self in
    let m = c.loop-i in
    let n = c.entry_count-i-end.ensures.0 in
    let h : m.i < size (net_read c.args.self.record) = omega (arith, c.loop-i-test.true) in
    let e = G.earlier m.i m.invariant.0 h in
    let p = c.parent-p.ensures.0 in
    let P = fabric-connects c.args.self.switches.made.allowed c.args.self.switches.width in
    let a = c.edge_map-down.ensures in
    let b = written-map _ _ _ _ (omega arith) m.invariant.1 c.map_of.ensures in
    let d = map-down _ _ _ _ G P m.invariant.0 h p a b c.compose.ensures in
    (omega arith, written-more _ _ _ m.out m.i c.code_of-in-loop-i.result h m.invariant.1 d c.code_of-in-loop-i.ensures)

pub returns : goal.returns
returns c = (c.loop-i.invariant.1.long, written_all _ _ _ (omega arith) c.loop-i.invariant.1)
