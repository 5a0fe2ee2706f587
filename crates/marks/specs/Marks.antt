-- Which wires are held: for each channel a mask, bit t for track t. Definitions only; laws: proofs/MarksLaws.antt. Assumes nothing.
use Rattle.std.specs.Prelude.{ℕ, zero, suc, ◌+◌, ◌-◌, ◌/◌, ◌%◌, ◌^◌, List, Bool, eqb, get_or, set}
use Rattle.grid.specs.Grid.{Wire}

-- bit t of m
unfoldable pub bit : ℕ → ℕ → ℕ
bit m zero = m % 2
bit m (suc t) = bit (m / 2) t

-- track t of channel c is held
unfoldable pub held_at : List ℕ → ℕ → ℕ → Bool
unfolding bit
held_at m c t = eqb (bit (get_or m c 0) t) 1

-- the marks with track t of channel c held too
unfoldable pub holding : List ℕ → ℕ → ℕ → List ℕ
holding m c t = set m c (get_or m c 0 + 2 ^ t)

-- the marks with track t of channel c taken back
unfoldable pub releasing : List ℕ → ℕ → ℕ → List ℕ
releasing m c t = set m c (get_or m c 0 - 2 ^ t)

-- the wire v is held by the marks m
abbrev pub marked_in : List ℕ → Wire → Bool
marked_in m v = held_at m v.channel v.track
