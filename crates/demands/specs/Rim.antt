-- Promises of the rim (02, M-104). Definitions only; that they hold: proofs/Rim.antt. Assumes nothing.
use Rattle.std.specs.Prelude.{◌≡◌, ◌↔◌, ◌≢◌, ℕ, ◌≤◌, ◌<◌, List, true, length}
use Rattle.grid.specs.declared.Grid.{Grid}
use Rattle.grid.specs.declared.End.{End}
use Rattle.grid.specs.Facts.{Sized, HasEnd, EndsThere, Outer}
use Rattle.grid.specs.Grid.{box_at, At, has_channel, channels_at}
use Rattle.switchbox.specs.declared.Fabric.{Fabric}
use Rattle.switchbox.specs.SwitchBox.{switch_track, connected}
use Rattle.net.specs.Net.{size, parent, joint_at}
use Rattle.net.specs.Nets.{net_in}
use Rattle.netlist.specs.Netlist.{WellFormed, grid_of, nets}
use Rattle.assignment.specs.Assignment.{track_at, LegalAt}

pub record Rim : Type 0 where
  -- ---- asked for

  -- "a box with fewer than four channels joins equal track numbers, for every kind including 3", 02: any two channels that end at it
  pub straight : (f : Fabric) → Sized f.grid → (w c d x : ℕ) → c ≢ d → (i : ℕ)
      → At f.grid c x → At f.grid d x → channels_at f.grid x < 4 → connected f w c d i ≡ i
  -- "The box table holds for inner boxes only.", 02: for channels on the sides s and t
  pub inner_table : (f : Fabric) → Sized f.grid → (w c d x : ℕ) → c ≢ d → (s t i : ℕ)
      → HasEnd f.grid c (record { at = x; side = s }) → HasEnd f.grid d (record { at = x; side = t }) → 4 ≤ channels_at f.grid x
      → connected f w c d i ≡ switch_track f.kind f.rows w s t i
  -- "Right tickets are judged by the new rule everywhere from here", 02: at every width, a joint in a box with fewer than four channels has equal
  -- tracks
  pub legal : (s d b : List ℕ) (w : ℕ) → WellFormed s → LegalAt s d w b
      → (k i x : ℕ) → k < length (nets s) → 0 < i → i < size (net_in (nets s) k)
      → At (grid_of s) (joint_at (net_in (nets s) k) i).0 x → At (grid_of s) (joint_at (net_in (nets s) k) i).1 x → channels_at (grid_of s) x < 4
      → track_at (nets s) b k i ≡ track_at (nets s) b k (parent (net_in (nets s) k) i)
  -- ---- ours

  -- "a box with fewer than four channels": a side of a box has one exactly if a channel of the chip ends there, no two end there, and fewer than
  -- four are exactly in column 0 or A−1, or in row 0 or B−1
  pub side_channel : (g : Grid) (c r s : ℕ) → c < g.cols → r < g.rows → s < 4
      → (has_channel g (box_at g c r) s ≡ true) ↔ EndsThere g (record { at = box_at g c r; side = s })
  pub end_unique : (g : Grid) → Sized g → (n m : ℕ) (e : End) → HasEnd g n e → HasEnd g m e → n ≡ m
  pub exactly : (g : Grid) (c r : ℕ) → c < g.cols → r < g.rows → (channels_at g (box_at g c r) < 4) ↔ Outer g c r
