-- Promises of the grid of switch boxes and its channels (01 "Chip and boxes"). Definitions only; that they hold: proofs/Chip.antt. Assumes nothing.
use Rattle.std.specs.Prelude.{◌≡◌, ◌↔◌, ◌≢◌, ℕ, ◌+◌, ◌<◌}
use Rattle.grid.specs.declared.Grid.{Grid}
use Rattle.grid.specs.Facts.{Sized}
use Rattle.grid.specs.Grid.{box_at, channel_right, channel_up, channel_count, left, top, right, bottom, first_end, second_end, Numbered, At}

pub record Chip : Type 0 where
  -- ---- asked for

  -- "The channel from (c, r) to (c+1, r) has number r·(A−1)+c: it is on the right side of the first box and the left of the second", 01
  pub channel_right_ends : (g : Grid) (c r : ℕ) → c + 1 < g.cols → r < g.rows
      → (first_end g (channel_right g c r) ≡ record { at = box_at g c r; side = right })
      × (second_end g (channel_right g c r) ≡ record { at = box_at g (c + 1) r; side = left })
  -- "The channel from (c, r) to (c, r+1) has number B·(A−1)+r·A+c: it is on the top of the first and the bottom of the second", 01
  pub channel_up_ends : (g : Grid) (c r : ℕ) → c < g.cols → r + 1 < g.rows
      → (first_end g (channel_up g c r) ≡ record { at = box_at g c r; side = top })
      × (second_end g (channel_up g c r) ≡ record { at = box_at g c (r + 1); side = bottom })
  -- "There are B·(A−1)+A·(B−1) channels", 01: these and no others; "Two different channels meet in at most one box", 01
  pub channel_numbers : (g : Grid) → Sized g → (n : ℕ) → (n < channel_count g) ↔ Numbered g n
  pub meet_once : (g : Grid) → Sized g → (n m x y : ℕ) → n ≢ m → At g n x → At g m x → At g n y → At g m y → x ≡ y
