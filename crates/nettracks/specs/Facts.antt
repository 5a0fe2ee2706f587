-- What the code's contracts and the laws say of one net's tracks beside the paper's definitions. Definitions only; laws:
-- proofs/NetTracksLaws.antt. Assumes nothing.
use Rattle.std.specs.Prelude.{ℕ, List, Bool, true, false, not, ltb, get_or}
use Rattle.grid.specs.Grid.{Wire}
use Rattle.net.specs.Net.{Net, size}
use Rattle.nettracks.specs.declared.TrackTest.{TrackTest}
use Rattle.nettracks.specs.declared.TrackTest.TheVariants.{Range, Switches, Whole}
use Rattle.nettracks.specs.NetTracks.{in_range, switched, whole_wires, skipped, wire_at, switched_at}

-- the test of the track of entry i that a `TrackTest` names
unfoldable pub tracks_pass_at : TrackTest → (ℕ → ℕ → ℕ → ℕ) → (Wire → Bool) → ℕ → Net → List ℕ → ℕ → Bool
unfolding switched_at
tracks_pass_at Range step dead w n ts i = ltb (get_or ts i 0) w
tracks_pass_at Switches step dead w n ts i = switched_at step n ts i
tracks_pass_at Whole step dead w n ts i = not (dead (wire_at n ts i))

-- and the test of all entries
unfoldable pub tracks_pass : TrackTest → (ℕ → ℕ → ℕ → ℕ) → (Wire → Bool) → ℕ → Net → List ℕ → Bool
unfolding in_range switched whole_wires
tracks_pass Range partner broken w n ts = in_range w n ts
tracks_pass Switches partner broken w n ts = switched partner n ts
tracks_pass Whole partner broken w n ts = whole_wires broken n ts

-- how many wires a net holds: none where it is not looked at
unfoldable pub wire_count : Bool → Net → List ℕ → ℕ
unfolding skipped
wire_count partial n ts = elim (skipped partial ts) [ true ↦ 0 | false ↦ size n ]
