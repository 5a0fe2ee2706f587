-- The grid of switch boxes and its channels (01 "Chip and boxes"), and the boxes on its rim (02, M-104). Definitions only; laws:
-- proofs/GridLaws.antt, proofs/RimLaws.antt and proofs/MeetingLaws.antt. Assumes nothing.
use Rattle.std.specs.Prelude.{◌≡◌, ◌⊎◌, ℕ, ◌+◌, ◌-◌, ◌*◌, ◌/◌, ◌%◌, ◌<◌, [], ◌∷◌, Bool, true, false, ◌&&◌, ltb, eqb, get_or}
use Rattle.grid.specs.declared.Grid.{Grid}
use Rattle.grid.specs.declared.End.{End}

-- "A and B each 2 to 16" (a `Grid`, 01: chip, has cols for A and rows for B)
abbrev pub min_side : ℕ
min_side = 2

abbrev pub max_side : ℕ
max_side = 16

-- the number of the box at (column c, row r), row by row
abbrev pub box_at : Grid → ℕ → ℕ → ℕ
box_at g c r = r * g.cols + c

-- how many channels run right: their numbers come first
abbrev pub right_count : Grid → ℕ
right_count g = g.rows * (g.cols - 1)

-- "The channel from (c, r) to (c+1, r) has number r·(A−1)+c"
abbrev pub channel_right : Grid → ℕ → ℕ → ℕ
channel_right g c r = r * (g.cols - 1) + c

-- "The channel from (c, r) to (c, r+1) has number B·(A−1)+r·A+c"
abbrev pub channel_up : Grid → ℕ → ℕ → ℕ
channel_up g c r = g.rows * (g.cols - 1) + r * g.cols + c

-- "There are B·(A−1)+A·(B−1) channels, at most 480."
abbrev pub channel_count : Grid → ℕ
channel_count g = g.rows * (g.cols - 1) + g.cols * (g.rows - 1)

abbrev pub max_channels : ℕ
max_channels = 480

-- the sides of a box
abbrev pub left : ℕ
left = 0

abbrev pub top : ℕ
top = 1

abbrev pub right : ℕ
right = 2

abbrev pub bottom : ℕ
bottom = 3

-- The two ends of the channel with number n, read back from its number: n is r·(A−1)+c, or B·(A−1)+r·A+c.
-- An `End` is the number of a box and the side of it that the channel is on.
-- "it is on the right side of the first box and the left of the second"; "on the top of the first and the bottom of the second"
unfoldable pub first_end : Grid → ℕ → End
first_end g n =
    elim (ltb n (right_count g)) [
      | true ↦ record { at = box_at g (n % (g.cols - 1)) (n / (g.cols - 1)); side = right }
      | false ↦ record { at = box_at g ((n - right_count g) % g.cols) ((n - right_count g) / g.cols); side = top }
    ]

unfoldable pub second_end : Grid → ℕ → End
second_end g n =
    elim (ltb n (right_count g)) [
      | true ↦ record { at = box_at g (n % (g.cols - 1) + 1) (n / (g.cols - 1)); side = left }
      | false ↦ record { at = box_at g ((n - right_count g) % g.cols) ((n - right_count g) / g.cols + 1); side = bottom }
    ]

-- ---- where two channels meet

-- whether they do, and then the box and the sides of it that the first and the second are on
pub record Meeting : Type 0 where
  pub met : Bool
  pub at : ℕ
  pub from : ℕ
  pub to : ℕ

-- the meeting of two channels that do not meet: its numbers say nothing
abbrev pub apart : Meeting
apart = record { met = false; at = 0; from = 0; to = 0 }

-- that of two channels whose ends p and q are at one box
abbrev pub meeting_at : End → End → Meeting
meeting_at p q = record { met = true; at = p.at; from = p.side; to = q.side }

unfoldable pub meeting_or : End → End → Meeting → Meeting
meeting_or p q m = elim (eqb p.at q.at) [ true ↦ meeting_at p q | false ↦ m ]

-- "Two different channels meet in at most one box": GridLaws, meet-once
unfoldable pub meeting : Grid → ℕ → ℕ → Meeting
unfolding first_end second_end meeting_or
meeting g c d =
    elim (eqb c d) [
      | true ↦ apart
      | false ↦
          meeting_or (first_end g c) (first_end g d)
          (meeting_or (first_end g c) (second_end g d)
          (meeting_or (second_end g c) (first_end g d)
          (meeting_or (second_end g c) (second_end g d) apart)))
    ]

abbrev pub meet : Grid → ℕ → ℕ → Bool
meet g c d = (meeting g c d).met

-- box x is at an end of channel n
abbrev pub At : Grid → ℕ → ℕ → Type 0
At g n x = ((first_end g n).at ≡ x) ⊎ ((second_end g n).at ≡ x)

-- the channels of the grid, by their numbers
pub data Numbered (g : Grid) : ℕ → Type 0 where
  runs_right : (c r : ℕ) → c + 1 < g.cols → r < g.rows → Numbered g (channel_right g c r)
  runs_up : (c r : ℕ) → c < g.cols → r + 1 < g.rows → Numbered g (channel_up g c r)

-- 01: wire. "A wire is a channel and a track 0 to W−1."
pub record Wire : Type 0 where
  pub channel : ℕ
  pub track : ℕ

-- the wire of channel c and track t
abbrev pub wire : ℕ → ℕ → Wire
wire c t = record { channel = c; track = t }

abbrev pub same_wire : Wire → Wire → Bool
same_wire v u = eqb v.channel u.channel && eqb v.track u.track

-- ---- 02, M-104: the rim

-- the column and the row of the box with number x
abbrev pub box_column : Grid → ℕ → ℕ
box_column g x = x % g.cols

abbrev pub box_row : Grid → ℕ → ℕ
box_row g x = x / g.cols

-- whether box x has a channel on its left, top, right, bottom: where another box of the grid is on that side
-- A side has one exactly if a channel ends there, and no two end there: RimLaws, side-channel and end-unique
unfoldable pub has_channel : Grid → ℕ → ℕ → Bool
has_channel g x side =
    get_or
    (ltb 0 (box_column g x) ∷ ltb (box_row g x + 1) g.rows ∷ ltb (box_column g x + 1) g.cols ∷ ltb 0 (box_row g x) ∷ [])
    side
    false

-- how many channels box x has on a side
unfoldable pub channels_on : Grid → ℕ → ℕ → ℕ
unfolding has_channel
channels_on g x side = elim (has_channel g x side) [ true ↦ 1 | false ↦ 0 ]

-- how many channels box x has, by its four sides
unfoldable pub channels_at : Grid → ℕ → ℕ
unfolding channels_on
channels_at g x = channels_on g x left + channels_on g x top + channels_on g x right + channels_on g x bottom

-- as many as a box has that lacks none
abbrev pub all_channels : ℕ
all_channels = 4

-- "a box with fewer than four channels": column 0 or A−1, row 0 or B−1 (RimLaws, rim-exactly). The others are the inner boxes.
unfoldable pub on_rim : Grid → ℕ → Bool
unfolding channels_at
on_rim g x = ltb (channels_at g x) all_channels
