use Prim.Native.Nat.{◌≤◌}
use Rattle.switchbox.specs.SwitchBox.{connected}
use Rattle.net.specs.Read.{net_read}
use Rattle.trackmaps.proofs.TrackMapsLaws.{Written}
use Rattle.trackmaps.proofs.Tree.net_maps.Given as goal

abbrev pub invariant-loop-i : goal.invariant-loop-i
invariant-loop-i l =
    let s = l.self.switches in
    (1 ≤ l.i) × Written (connected s.boxes.fabric s.width) s.width (net_read l.self.record) l.out l.i
