-- What the writer writes, and what it needs. Definitions only; laws: proofs/WrittenLaws.antt. Assumes nothing.
use Rattle.std.specs.Prelude.{ℕ, ◌≤◌, ◌<◌, List, map, length, get_or}
use Rattle.netlist.specs.Netlist.{connected_on}
use Rattle.rank.specs.Facts.{rising_nets}
use Rattle.wires.specs.Wires.{mapped_by, MapFits}
use Rattle.planner.specs.Planned.{Mapped}

-- bytes that are track maps at the width w, and a home track for them
abbrev pub Codes : ℕ → ℕ → List ℕ → Type 0
Codes w h ts = (i : ℕ) → i < length ts → MapFits w (get_or ts i 0) h

-- the tracks that the track maps ts take the home track h to
abbrev pub tracks_from : ℕ → ℕ → List ℕ → List ℕ
tracks_from w h ts = map (λ (code : ℕ). mapped_by w code h) ts

-- what the writer needs at the width w: the table of track maps, and home tracks below w for the n nets
pub record Writable (s : List ℕ) (w : ℕ) (start maps : List ℕ) (n : ℕ) (homes : List ℕ) : Type 0 where
  pub width : w ≤ 32
  pub mapped : Mapped (connected_on s w) w (rising_nets s) start maps
  pub long : n ≤ length homes
  pub below : (k : ℕ) → k < n → get_or homes k 0 < w
