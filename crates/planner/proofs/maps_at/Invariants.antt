use Prim.Native.Nat.{◌*◌, ◌≤◌}
use lib.ListN.{get_or}
use Rattle.netlist.specs.Netlist.{connected_on}
use Rattle.planner.specs.Planned.{plan_nets}
use Rattle.planner.proofs.MapsFromLaws.{MappedTo}
use Rattle.planner.proofs.maps_at.Given as goal

abbrev pub invariant-loop-k : goal.invariant-loop-k
invariant-loop-k l =
    let s = l.sheet.netlist.bytes.now in
    (get_or l.plan.start l.k 0 ≤ 32 * l.k) × MappedTo (connected_on s l.w) l.w (plan_nets s l.plan) l.plan.start l.k l.maps
