-- The switch boxes: the track that a track is connected to across a box (01 "Chip and boxes", the table; 02, M-102, M-104).
-- Definitions only; laws: proofs/SwitchBoxLaws.antt. Assumes nothing.
use Rattle.std.specs.Prelude.{ℕ, zero, suc, ◌+◌, ◌-◌, ◌*◌, ◌%◌, List, [], ◌∷◌, Bool, true, false, ◌&&◌, ltb, leb, eqb, get_or}
use Rattle.bounded.specs.Bounded.{every}
use Rattle.bounded.specs.Lists.{place}
use Rattle.grid.specs.Grid.{left, top, right, bottom, meeting, on_rim}
use Rattle.switchbox.specs.declared.Fabric.{Fabric}

-- 01: kind. The kinds are 0 subset, 1 Wilton, 2 universal; 02, M-102: and 3, whose inner boxes the sheet gives by rows.
abbrev pub rows_kind : ℕ
rows_kind = 3

-- "Number 3 lets kind 3 pass."
abbrev pub max_kind : ℕ
max_kind = 3

-- "W u8 (1 to 32)"
abbrev pub max_width : ℕ
max_width = 32

-- an ordered pair of sides, as one number: 0 to 15
abbrev pub side_pair : ℕ → ℕ → ℕ
side_pair from to = from * 4 + to

-- the columns of the table, as ordered pairs of sides
abbrev pub columns : List ℕ
columns =
    side_pair left right ∷
    side_pair top bottom ∷
    side_pair left top ∷
    side_pair top right ∷
    side_pair right bottom ∷
    side_pair bottom left ∷
    []

abbrev pub column_count : ℕ
column_count = 6

-- ---- 02, M-102: the rows of kind 3

-- "12 bytes between directory and trailer"
abbrev pub rows_length : ℕ
rows_length = 12

-- how many bytes of a sheet they are: the other kinds have none
unfoldable pub rows_size : ℕ → ℕ
rows_size kind = elim (eqb kind rows_kind) [ true ↦ rows_length | false ↦ 0 ]

-- "for each column pair of the box table, left to right, a sign byte (0 plus, 1 minus) and a shift": those of column k
abbrev pub sign_of : List ℕ → ℕ → ℕ
sign_of rows k = get_or rows (2 * k) 0

abbrev pub shift_of : List ℕ → ℕ → ℕ
shift_of rows k = get_or rows (2 * k + 1) 0

-- a signed byte, two's complement: below 128 it is itself, else (to 255) itself less 256. What it adds, and what it takes away.
unfoldable pub adds : ℕ → ℕ
adds b = elim (ltb b 128) [ true ↦ b | false ↦ 0 ]

unfoldable pub takes : ℕ → ℕ
takes b = elim (ltb b 128) [ true ↦ 0 | false ↦ 256 - b ]

-- "a shift, a signed byte from −32 to 31"
unfoldable pub shift_allowed : ℕ → Bool
unfolding adds takes
shift_allowed b = leb (takes b) 32 && leb (adds b) 31

-- "a sign byte (0 plus, 1 minus) and a shift"
unfoldable pub row_allowed : List ℕ → ℕ → Bool
unfolding shift_allowed
row_allowed rows k = leb (sign_of rows k) 1 && shift_allowed (shift_of rows k)

unfoldable pub rows_allowed : List ℕ → Bool
unfolding every row_allowed
rows_allowed rows = every column_count (row_allowed rows)

-- The shift of a byte and 64 whole widths, with which nothing falls below 0 where the shift is allowed: no formula of the paper's. The promise
-- `row_remainder` (demands) ties it to the remainder that the paper names.
abbrev pub shift_on : ℕ → ℕ → ℕ
shift_on w b = 64 * w + adds b - takes b

-- "(shift plus or minus i) mod W, from 0 to W−1"
unfoldable pub shifted : ℕ → ℕ → ℕ → ℕ → ℕ
unfolding adds takes
shifted sign b w i = elim (eqb sign 0) [ true ↦ (shift_on w b + i) % w | false ↦ (shift_on w b - i) % w ]

-- "The partner of track i on a pair's first side"
abbrev pub row_track : List ℕ → ℕ → ℕ → ℕ → ℕ
row_track rows k w i = shifted (sign_of rows k) (shift_of rows k) w i

-- ---- the table

abbrev pub equal_track : ℕ → ℕ → ℕ
equal_track w i = i

-- "Partner of track i across a box", an inner one: a line for each kind, a cell for each column; the last line is that of kind 3, from the
-- sheet's rows
abbrev pub box_table : List ℕ → List (List (ℕ → ℕ → ℕ))
box_table rows =
    -- 0 subset
    (equal_track ∷ equal_track ∷ equal_track ∷ equal_track ∷ equal_track ∷ equal_track ∷ []) ∷
    -- 1 Wilton
    (equal_track ∷
    equal_track ∷
    (λ w i. (w - i) % w) ∷
    (λ w i. (i + 1) % w) ∷
    (λ w i. (2 * w - 2 - i) % w) ∷
    (λ w i. (i + 1) % w) ∷
    []) ∷
    -- 2 universal
    (equal_track ∷ equal_track ∷ (λ w i. w - 1 - i) ∷ equal_track ∷ (λ w i. w - 1 - i) ∷ equal_track ∷ []) ∷
    -- 3 by rows
    (row_track rows 0 ∷ row_track rows 1 ∷ row_track rows 2 ∷ row_track rows 3 ∷ row_track rows 4 ∷ row_track rows 5 ∷ []) ∷
    []

-- the column of an ordered pair of sides; 6 where no column has it in this order
abbrev pub column : ℕ → ℕ → ℕ
column from to = place (side_pair from to) columns

-- the cell of a kind and a column
abbrev pub cell : ℕ → List ℕ → ℕ → ℕ → ℕ → ℕ
cell kind rows k = get_or (get_or (box_table rows) kind []) k equal_track

-- the track below w that f takes to i: the highest where there are more, 0 where there is none
unfoldable pub inverse : ℕ → (ℕ → ℕ) → ℕ → ℕ
inverse zero f i = 0
inverse (suc k) f i = elim (eqb (f k) i) [ true ↦ k | false ↦ inverse k f i ]

-- The track on the side `to` of a box that the table connects track i on the side `from` to.
-- "each pair is read from either end": in the order of its column by the cell, in the other order by the cell's inverse
unfoldable pub switch_track : ℕ → List ℕ → ℕ → ℕ → ℕ → ℕ → ℕ
unfolding place inverse shifted
switch_track kind rows w from to i =
    elim (ltb (column from to) column_count) [
      | true ↦ cell kind rows (column from to) w i
      | false ↦ inverse w (cell kind rows (column to from) w) i
    ]

-- 01: partner. The track on channel d that track i on channel c is connected to, in the box where they meet.
-- 02, M-104: "On the new chip a box with fewer than four channels joins equal track numbers, for every kind including 3. The box table holds for
-- inner boxes only."
unfoldable pub connected : Fabric → ℕ → ℕ → ℕ → ℕ → ℕ
unfolding on_rim meeting switch_track
connected f w c d i =
    let m = meeting f.grid c d in
    elim (on_rim f.grid m.at) [ true ↦ equal_track w i | false ↦ switch_track f.kind f.rows w m.from m.to i ]
