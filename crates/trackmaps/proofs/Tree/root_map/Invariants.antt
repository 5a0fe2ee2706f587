use Prim.Native.Nat.{◌<◌}
use Rattle.switchbox.specs.SwitchBox.{connected}
use Rattle.net.specs.Net.{size}
use Rattle.net.specs.Read.{net_read}
use Rattle.trackmaps.proofs.TrackMapsLaws.{Climbed}
use Rattle.trackmaps.proofs.Tree.root_map.Given as goal

abbrev pub invariant-loop-i : goal.invariant-loop-i
invariant-loop-i l =
    let s = l.self.switches in
    let n = net_read l.self.record in
    (l.i < size n) × Climbed (connected s.boxes.fabric s.width) s.width n l.i l.up

abbrev pub decreases-loop-i : goal.decreases-loop-i
decreases-loop-i l = l.i
