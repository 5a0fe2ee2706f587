use mathlib.Core.Path.{◌≡◌}
use Prim.Native.Nat.{◌≤◌}
use lib.ListN.{length, take}
use Rattle.net.specs.Nets.{net_in}
use Rattle.netlist.specs.Netlist.{nets}
use Rattle.planner.specs.Planned.{old_home}
use Rattle.planner.specs.Chosen.{chosen_nets}
use Rattle.planner.proofs.FilledLaws.{FilledTo}
use Rattle.netsearch.specs.HomeTrack.{byte_of}
use Rattle.netsearch.specs.Refit.{routed_count}
use Rattle.planner.proofs.Chosen.old_homes.Given as goal

abbrev pub invariant-loop-k : goal.invariant-loop-k
invariant-loop-k l =
    let old = byte_of (nets l.self.sheet.netlist.bytes.now) l.old in
    (l.placed ≡ routed_count old (take l.k (chosen_nets l.self)))
    × (l.placed ≤ l.k)
    × (length l.homes ≡ 64)
    × FilledTo (λ i. old_home old (net_in (chosen_nets l.self) i)) l.homes l.k
