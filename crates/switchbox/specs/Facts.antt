-- What the code's contracts and the laws say of the switch boxes beside the paper's definitions: allowed fabrics, track maps, and that tracks
-- are connected both ways. Definitions only; laws: proofs/SwitchBoxLaws.antt, proofs/GeneratorLaws.antt. Assumes nothing.
use Rattle.std.specs.Prelude.{◌≡◌, ℕ, ◌+◌, ◌-◌, ◌%◌, ◌≤◌, ◌<◌, List, Bool, true, false, eqb}
use Rattle.grid.specs.Facts.{Sized}
use Rattle.switchbox.specs.declared.Fabric.{Fabric}
use Rattle.switchbox.specs.declared.Table.{Table}
use Rattle.switchbox.specs.declared.Boxes.{Boxes}
use Rattle.switchbox.specs.declared.TrackMap.{TrackMap}
use Rattle.switchbox.specs.SwitchBox.{max_kind, sign_of, shift_of, adds, takes, rows_allowed}
use Rattle.switchbox.specs.Generator.{table_from, table_track, rows_of_kind}

-- a kind that the box table has
abbrev pub AllowedKind : ℕ → Type 0
AllowedKind kind = kind < max_kind + 1

-- and allowed rows, which a published kind has whatever stands for its own
abbrev pub AllowedRows : ℕ → List ℕ → Type 0
AllowedRows kind rows = AllowedKind kind × (rows_allowed (rows_of_kind kind rows) ≡ true)

pub record Allowed (f : Fabric) : Type 0 where
  pub sized : Sized f.grid
  pub rows : AllowedRows f.kind f.rows

-- the fabric f with the table of its inner boxes
abbrev pub boxes_of : Fabric → Boxes
boxes_of f = record { fabric = f; table = table_from (rows_of_kind f.kind f.rows) }

-- an allowed fabric with that table
pub record Made (b : Boxes) : Type 0 where
  pub allowed : Allowed b.fabric
  pub own : b ≡ boxes_of b.fabric

-- from the other end the table t gives every track back, at every width
abbrev pub Undone : Table → Type 0
Undone t = (w from to i : ℕ) → from < 4 → to < 4 → i < w → table_track t w to from (table_track t w from to i) ≡ i

-- x is the shift of column k plus or minus i, modulo w, the shift being `adds` less `takes`
pub record Remainder (rows : List ℕ) (k w i x : ℕ) : Type 0 where
  pub low : x < w
  pub plus : sign_of rows k ≡ 0 → (x + takes (shift_of rows k)) % w ≡ (adds (shift_of rows k) + i) % w
  pub minus : sign_of rows k ≡ 1 → (x + i + takes (shift_of rows k)) % w ≡ adds (shift_of rows k) % w

-- a track map of tracks at the width w: (shift plus or minus t) mod w; minus is 0 for plus
unfoldable pub mapped : ℕ → ℕ → ℕ → ℕ → ℕ
mapped w minus shift t = elim (eqb minus 0) [ true ↦ (shift + t) % w | false ↦ (shift + (w - t)) % w ]

-- the track map r takes each track below w to what f takes it to
pub record MapIs (w : ℕ) (r : TrackMap) (f : ℕ → ℕ) : Type 0 where
  pub sign : r.minus ≤ 1
  pub low : r.shift < w
  pub same : (t : ℕ) → t < w → mapped w r.minus r.shift t ≡ f t

-- Tracks are connected both ways, over channels that meet: `partner c d i` is the track on d that track i on c is connected to
pub record Connects (w : ℕ) (meet : ℕ → ℕ → Bool) (partner : ℕ → ℕ → ℕ → ℕ) : Type 0 where
  pub either : (c d : ℕ) → meet c d ≡ true → meet d c ≡ true
  pub within : (c d i : ℕ) → meet c d ≡ true → i < w → partner c d i < w
  pub undone : (c d i : ℕ) → meet c d ≡ true → i < w → partner d c (partner c d i) ≡ i
