-- `planner::maps_at` meets its contract: the loop's invariant is that the nets passed have their track maps. Assumes nothing.
use mathlib.Core.Path.{ap}
use Prim.Native.Nat.{◌<◌}
use native.Mathlib.Omega.{arith}
use lib.ListN.{length}
use Rattle.net.specs.Net.{size}
use Rattle.planner.specs.Planned.{plan_nets}
use Rattle.planner.proofs.PlacesLaws.{nets_at-length, record-short}
use Rattle.planner.proofs.MapsFromLaws.{plan-made, plan-parents, plan-differ, mapped_to-more}
use Rattle.planner.proofs.maps_at.Goals as goal

pub invariant_of-switches : goal.invariant_of-switches
invariant_of-switches c = record { made = plan-made c.args.sheet.accepted c.requires.planned; narrow = c.requires.le_w.1 }

pub invariant_of-tree : goal.invariant_of-tree
invariant_of-tree c = record {
  low = c.requires.le_w.0;
  parents = plan-parents c.args.sheet.accepted c.requires.planned c.loop-k-test.true c.record.ensures;
  differ = plan-differ c.args.sheet.accepted c.requires.planned c.loop-k-test.true c.record.ensures;
}

pub maps_from-requires : goal.maps_from-requires
maps_from-requires c = omega (arith, record-short c.record.result, c.requires.planned.places.few)

pub loop-k-preserved : goal.loop-k-preserved
loop-k-preserved c =
    let p = c.requires.planned in
    let s = c.args.sheet.netlist.bytes.now in
    let plan = c.args.plan.now in
    let k = c.loop-k.k in
    let ns = plan_nets s plan in
    let h : k < length ns = omega (arith, nets_at-length s plan.order plan.count, c.loop-k-test.true) in
    let started = p.entries.started in (
      omega (arith, started.sizes k h, ap size c.record.ensures, record-short c.record.result),
      mapped_to-more _ c.args.w ns plan.start started k _ _ h c.loop-k.invariant.1 (rw (p.boxes, c.record.ensures) at c.maps_from.ensures),
    )

pub returns : goal.returns
returns c =
    let plan = c.args.plan.now in
    λ j h. c.loop-k.invariant.1 j (omega (arith, nets_at-length c.args.sheet.netlist.bytes.now plan.order plan.count))
