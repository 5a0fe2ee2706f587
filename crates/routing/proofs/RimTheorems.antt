-- Legal assignments follow the rim (02, M-104). Assumes nothing.
use mathlib.Core.Path.{◌≡◌, ◌∙◌}
use Prim.Native.Nat.{ℕ, ◌<◌}
use mathlib.Core.List.{List}
use lib.ListN.{length}
use Rattle.grid.specs.Grid.{At, channels_at}
use Rattle.grid.proofs.GridLaws.{meet-at}
use Rattle.switchbox.proofs.SwitchBoxLaws.{rim-straight}
use Rattle.net.specs.Net.{parent, joint_at, size}
use Rattle.net.specs.Nets.{net_in}
use Rattle.net.proofs.NetsLaws.{place_in}
use Rattle.netlist.specs.Netlist.{WellFormed, grid_of, fabric_of, nets}
use Rattle.netlist.proofs.NetlistLaws.{well_formed-readable, readable-allowed}
use Rattle.netlist.proofs.SheetLaws.{well_formed-accepted}
use Rattle.assignment.specs.Assignment.{track_at, LegalAt}

-- a joint in a box with fewer than four channels has equal tracks
pub legal-rim : (s d b : List ℕ) (w : ℕ) → WellFormed s → LegalAt s d w b
    → (k i x : ℕ) → k < length (nets s) → 0 < i → i < size (net_in (nets s) k)
    → At (grid_of s) (joint_at (net_in (nets s) k) i).0 x → At (grid_of s) (joint_at (net_in (nets s) k) i).1 x → channels_at (grid_of s) x < 4
    → track_at (nets s) b k i ≡ track_at (nets s) b k (parent (net_in (nets s) k) i)
legal-rim s d b w a L k i x h p q c e l =
    let n = net_in (nets s) k in
    let z = (readable-allowed (well_formed-readable s a)).sized in
    let m = ((well_formed-accepted s a).each n (place_in (nets s) k h)).meets i p q in
    L.joined k i h tt p q
    ∙ rim-straight (fabric_of s) z w (joint_at n i).0 (joint_at n i).1 x (meet-at (grid_of s) (joint_at n i).0 (joint_at n i).1 m).0 _ c e l
