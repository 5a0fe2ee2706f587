-- What the code's contracts and the laws say of grids beside the paper's definitions. Definitions only. Assumes nothing.
use Rattle.std.specs.Prelude.{◌≡◌, ◌⊎◌, ℕ, ◌-◌, ◌≤◌}
use Rattle.grid.specs.declared.Grid.{Grid}
use Rattle.grid.specs.declared.End.{End}
use Rattle.grid.specs.Grid.{min_side, max_side, first_end, second_end, Numbered}

-- "A and B each 2 to 16"
pub record Sized (g : Grid) : Type 0 where
  pub cols_low : min_side ≤ g.cols
  pub cols_high : g.cols ≤ max_side
  pub rows_low : min_side ≤ g.rows
  pub rows_high : g.rows ≤ max_side

-- e is one of the two ends of channel n: a box, and the side of it that the channel is on
abbrev pub HasEnd : Grid → ℕ → End → Type 0
HasEnd g n e = (first_end g n ≡ e) ⊎ (second_end g n ≡ e)

-- a channel of the grid ends there
abbrev pub EndsThere : Grid → End → Type 0
EndsThere g e = (n : ℕ) × (Numbered g n × HasEnd g n e)

-- in the first or the last column, or in the first or the last row: column 0 or A−1, or row 0 or B−1
pub data Outer (g : Grid) : ℕ → ℕ → Type 0 where
  first_column : (r : ℕ) → Outer g 0 r
  last_column : (r : ℕ) → Outer g (g.cols - 1) r
  first_row : (c : ℕ) → Outer g c 0
  last_row : (c : ℕ) → Outer g c (g.rows - 1)
