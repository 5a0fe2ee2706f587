-- Promises of the box table and of boxes by parameters (01 "Chip and boxes", the table; 02, M-102). Definitions only; that they hold:
-- proofs/Boxes.antt. Assumes nothing.
use Rattle.std.specs.Prelude.{◌≡◌, ◌↔◌, ◌≢◌, ℕ, ◌<◌, List, true}
use Rattle.numbers.specs.Numbers.{parameter_no}
use Rattle.grid.specs.Grid.{meet}
use Rattle.switchbox.specs.declared.Fabric.{Fabric}
use Rattle.switchbox.specs.SwitchBox.{rows_kind, column_count, column, rows_allowed, switch_track, connected}
use Rattle.switchbox.specs.Generator.{table_track, no_table, generated, published, rows_of_kind}
use Rattle.switchbox.specs.Facts.{AllowedRows, Allowed, Remainder}

pub record Boxes : Type 0 where
  -- ---- asked for

  -- "The facts about partners (within range, undone from the other end) are shared over all widths", 01: and over all kinds, with the rows of
  -- kind 3 (02, M-102), in all boxes (02, M-104)
  pub partners : (f : Fabric) → Allowed f → (w c d i : ℕ) → meet f.grid c d ≡ true → i < w
      → (connected f w c d i < w) × (connected f w d c (connected f w c d i) ≡ i)
  -- "The partner of track i on a pair's first side is (shift plus or minus i) mod W", 02: the x below W for which x and the shift's negative part
  -- are congruent to its positive part plus i, or with i to it
  pub row_remainder : (rows : List ℕ) (w from to i : ℕ) → rows_allowed rows ≡ true → column from to < column_count → i < w
      → Remainder rows (column from to) w i (switch_track rows_kind rows w from to i)
  -- "A generator makes the partner table of kinds 0, 1 and 2 from such rows", 02: for these three kinds together, and for kind 3, its partners are
  -- those of the box table, at every width
  pub generated_table : (kind : ℕ) (rows : List ℕ) → AllowedRows kind rows → (w from to i : ℕ) → from < 4 → to < 4 → i < w
      → table_track (generated (rows_of_kind kind rows)).table w from to i ≡ switch_track kind rows w from to i
  -- "It refuses a bad sign or shift with 18 (parameter)", 02
  pub generated_number : (rows : List ℕ) → ((generated rows).number ≡ 0) ↔ (rows_allowed rows ≡ true)
  pub generated_refused : (rows : List ℕ) → (generated rows).number ≢ 0
      → ((generated rows).number ≡ parameter_no) × ((generated rows).table ≡ no_table)
  -- ---- ours

  -- `partners`, of the box table
  pub table_partners : (kind : ℕ) (rows : List ℕ) → AllowedRows kind rows → (w from to i : ℕ) → from < 4 → to < 4 → i < w
      → (switch_track kind rows w from to i < w) × (switch_track kind rows w to from (switch_track kind rows w from to i) ≡ i)
  -- a kind 3 with the rows of a published kind has that kind's partners
  pub published_rows : (kind : ℕ) (rows : List ℕ) → kind < rows_kind → (w from to i : ℕ) → from < 4 → to < 4 → i < w
      → switch_track rows_kind (published kind) w from to i ≡ switch_track kind rows w from to i
