-- The channel numbers are the paper's (01 "Chip and boxes"). Assumes nothing.
-- channel_right-ends, channel_up-ends: the boxes and sides of a channel. channel-numbers: which numbers there are.
use mathlib.Core.Path.{◌≡◌}
use mathlib.Core.Logic.{◌↔◌}
use Prim.Native.Nat.{ℕ, ◌+◌, ◌<◌}
use native.Mathlib.Omega.{arith}
use Rattle.grid.specs.declared.Grid.{Grid}
use Rattle.grid.specs.Facts.{Sized}
use Rattle.grid.specs.Grid.{box_at, channel_right, channel_up, channel_count, left, top, right, bottom, first_end, second_end, Numbered, runs_right, runs_up}
use Rattle.grid.proofs.GridLaws.{channel_right-lt, channel_up-lt, first_end-channel_right, second_end-channel_right, first_end-channel_up, second_end-channel_up, channel-numbered}

pub channel_right-ends : (g : Grid) (c r : ℕ) → c + 1 < g.cols → r < g.rows
    → (first_end g (channel_right g c r) ≡ record { at = box_at g c r; side = right })
    × (second_end g (channel_right g c r) ≡ record { at = box_at g (c + 1) r; side = left })
channel_right-ends g c r p q = (first_end-channel_right g c r p q, second_end-channel_right g c r p q)

pub channel_up-ends : (g : Grid) (c r : ℕ) → c < g.cols → r + 1 < g.rows
    → (first_end g (channel_up g c r) ≡ record { at = box_at g c r; side = top })
    × (second_end g (channel_up g c r) ≡ record { at = box_at g c (r + 1); side = bottom })
channel_up-ends g c r p q = (first_end-channel_up g c r p q, second_end-channel_up g c r p q)

pub channel-numbers : (g : Grid) → Sized g → (n : ℕ) → (n < channel_count g) ↔ Numbered g n
channel-numbers g z n = (channel-numbered z n, at n)
  where
    at : (n : ℕ) → Numbered g n → n < channel_count g
    at n (runs_right c r p q) = omega (arith, channel_right-lt g c r p q)
    at n (runs_up c r p q) = channel_up-lt g c r p q
