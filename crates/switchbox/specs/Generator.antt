-- The generator of box tables (02, M-102: "A generator makes the partner table of kinds 0, 1 and 2 from such rows"): the number and the table
-- that it gives, and the table of each kind. Definitions only; laws: proofs/GeneratorLaws.antt. Assumes nothing.
use Rattle.std.specs.Prelude.{ℕ, ◌-◌, ◌/◌, ◌%◌, List, [], ◌∷◌, true, false, ltb, eqb, get_or, replicate}
use Rattle.bounded.specs.Bounded.{build}
use Rattle.bounded.specs.Lists.{place}
use Rattle.numbers.specs.Numbers.{parameter_no}
use Rattle.switchbox.specs.declared.Table.{Table}
use Rattle.switchbox.specs.SwitchBox.{rows_kind, side_pair, sign_of, shift_of, rows_allowed, shifted, column, column_count}

-- ---- the table: for each ordered pair of sides the sign (0 plus, 1 minus) and the shift, two's complement, from −32 to 32

-- a shift from the other end: plus has it negated, minus undoes itself
unfoldable pub shift_back : ℕ → ℕ → ℕ
shift_back sign b = elim (eqb sign 0) [ true ↦ (256 - b) % 256 | false ↦ b ]

-- the sign and shift of a pair of sides: its column's row, there or back; plus 0 for a side with itself
unfoldable pub pair_at : List ℕ → ℕ → ℕ → ℕ × ℕ
unfolding place shift_back
pair_at rows from to =
    let k = column from to in
    let l = column to from in
    elim (ltb k column_count) [
      | true ↦ (sign_of rows k, shift_of rows k)
      | false ↦ elim (ltb l column_count) [ true ↦ (sign_of rows l, shift_back (sign_of rows l) (shift_of rows l)) | false ↦ (0, 0) ]
    ]

abbrev pub pair_count : ℕ
pair_count = 16

unfoldable pub table_from : List ℕ → Table
unfolding pair_at build
table_from rows = record {
  signs = build pair_count (λ m. (pair_at rows (m / 4) (m % 4)).0);
  shifts = build pair_count (λ m. (pair_at rows (m / 4) (m % 4)).1);
}

-- the track on the side `to` that track i on the side `from` is connected to, by the table t
abbrev pub table_track : Table → ℕ → ℕ → ℕ → ℕ → ℕ
table_track t w from to i = shifted (get_or t.signs (side_pair from to) 0) (get_or t.shifts (side_pair from to) 0) w i

-- ---- the generator's number and table

-- what the generator gives: 0 and the table of its rows, or 18 and zeros
pub record Generated : Type 0 where
  pub number : ℕ
  pub table : Table

abbrev pub no_table : Table
no_table = record { signs = replicate pair_count 0; shifts = replicate pair_count 0 }

-- "It refuses a bad sign or shift with 18 (parameter)": every byte of the table is then 0
unfoldable pub generated : List ℕ → Generated
unfolding rows_allowed table_from
generated rows =
    elim (rows_allowed rows) [
      | true ↦ record { number = 0; table = table_from rows }
      | false ↦ record { number = parameter_no; table = no_table }
    ]

-- ---- the rows of kinds 0, 1 and 2, and of any kind

unfoldable pub published_rows : List (List ℕ)
published_rows =
    -- 0 subset
    (0 ∷ 0 ∷ 0 ∷ 0 ∷ 0 ∷ 0 ∷ 0 ∷ 0 ∷ 0 ∷ 0 ∷ 0 ∷ 0 ∷ []) ∷
    -- 1 Wilton: i, i, 0 − i, 1 + i, −2 − i, 1 + i
    (0 ∷ 0 ∷ 0 ∷ 0 ∷ 1 ∷ 0 ∷ 0 ∷ 1 ∷ 1 ∷ 254 ∷ 0 ∷ 1 ∷ []) ∷
    -- 2 universal: i, i, −1 − i, i, −1 − i, i
    (0 ∷ 0 ∷ 0 ∷ 0 ∷ 1 ∷ 255 ∷ 0 ∷ 0 ∷ 1 ∷ 255 ∷ 0 ∷ 0 ∷ []) ∷
    []

abbrev pub published : ℕ → List ℕ
published kind = get_or published_rows kind []

-- those of kind 3 are the sheet's own
unfoldable pub rows_of_kind : ℕ → List ℕ → List ℕ
unfolding published_rows
rows_of_kind kind rows = elim (eqb kind rows_kind) [ true ↦ rows | false ↦ published kind ]
