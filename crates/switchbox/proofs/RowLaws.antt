-- Laws of rows and cells (specs/SwitchBox.antt), over all widths and all rows. Assumes nothing.
-- rows_size: by the kind. row_allowed: its facts. formulas: the cells of the published kinds, each with the sign and shift of its row.
-- cell: the track by its row, for every kind.
use mathlib.Core.Path.{◌≡◌, refl, sym, ap, ap₂, ◌∙◌}
use mathlib.Core.Bool.{Bool, true, ◌&&◌}
use mathlib.Core.Logic.{◌⊎◌, inl, inr}
use mathlib.Core.List.{List, [], ◌∷◌}
use Prim.Native.Nat.{ℕ, zero, suc, ◌+◌, ◌-◌, ◌*◌, ◌%◌, ◌≤◌, ◌<◌}
use native.Mathlib.Omega.{arith}
use native.Mathlib.Decide.{ℕ_discrete}
use lib.Dec.{leb, eqb}
use lib.ListN.{get_or, get_or-map}
use borrow.Author.Tests.{leb-true, eqb-true, eq-eqb, ne_eqb}
use Rattle.bounded.specs.Bounded.{every}
use Rattle.bounded.proofs.BoundedLaws.{both_true, every-at}
use Rattle.switchbox.specs.SwitchBox.{rows_kind, rows_length, rows_size, column_count, sign_of, shift_of, adds, takes, shift_allowed, row_allowed, rows_allowed, shifted, row_track, equal_track, cell}
use Rattle.switchbox.specs.Generator.{published_rows, published, rows_of_kind}
use Rattle.switchbox.specs.Facts.{AllowedKind, Remainder}
use Rattle.switchbox.proofs.ShiftLaws.{mod_same, mod-back, shifted-lt, shifted_sum}

-- ---- rows_size

pub rows_size-own : (kind : ℕ) → kind ≡ rows_kind → rows_size kind ≡ rows_length
unfolding rows_size
rows_size-own kind e = rw (eq-eqb kind rows_kind e, rows_size)

pub rows_size-none : (kind : ℕ) → (kind ≡ rows_kind → ⊥) → rows_size kind ≡ 0
unfolding rows_size
rows_size-none kind e = rw (ne_eqb kind rows_kind e, rows_size)

pub rows_size-le : (kind : ℕ) → rows_size kind ≤ rows_length
rows_size-le kind = at (ℕ_discrete kind rows_kind)
  where
    at : Dec (kind ≡ rows_kind) → rows_size kind ≤ rows_length
    at (yes e) = omega (arith, rows_size-own kind e)
    at (no e) = omega (arith, rows_size-none kind e)

-- ---- row_allowed: a test to its facts

pub record InRange (rows : List ℕ) (k : ℕ) : Type 0 where
  pub sign : sign_of rows k ≤ 1
  pub low : takes (shift_of rows k) ≤ 32
  pub high : adds (shift_of rows k) ≤ 31

pub row_allowed-range : (rows : List ℕ) (k : ℕ) → row_allowed rows k ≡ true → InRange rows k
unfolding row_allowed shift_allowed
row_allowed-range rows k e =
    let p = both_true (leb (sign_of rows k) 1) _ e in
    let q = both_true (leb (takes (shift_of rows k)) 32) (leb (adds (shift_of rows k)) 31) p.1 in
    record { sign = leb-true _ 1 p.0; low = leb-true _ 32 q.0; high = leb-true _ 31 q.1 }

pub rows-range : (rows : List ℕ) → rows_allowed rows ≡ true → (k : ℕ) → k < column_count → InRange rows k
unfolding rows_allowed
rows-range rows e k h = row_allowed-range rows k (every-at column_count (row_allowed rows) e k h)

-- ---- formulas: those of the published kinds, each with a sign and a shift

abbrev formulas : List (ℕ → ℕ → ℕ)
formulas = equal_track ∷ (λ w i. (w - i) % w) ∷ (λ w i. (i + 1) % w) ∷ (λ w i. (2 * w - 2 - i) % w) ∷ (λ w i. w - 1 - i) ∷ []

abbrev signs : List ℕ
signs = 0 ∷ 1 ∷ 0 ∷ 1 ∷ 1 ∷ []

abbrev shifts : List ℕ
shifts = 0 ∷ 0 ∷ 1 ∷ 254 ∷ 255 ∷ []

-- the formula of each cell
abbrev shapes : List (List ℕ)
shapes = (0 ∷ 0 ∷ 0 ∷ 0 ∷ 0 ∷ 0 ∷ []) ∷ (0 ∷ 0 ∷ 1 ∷ 2 ∷ 3 ∷ 2 ∷ []) ∷ (0 ∷ 0 ∷ 4 ∷ 0 ∷ 4 ∷ 0 ∷ []) ∷ []

abbrev formula : ℕ → ℕ → ℕ → ℕ
formula f = get_or formulas f equal_track

abbrev shape : ℕ → ℕ → ℕ
shape kind k = get_or (get_or shapes kind []) k 0

-- the three printed lines
cell-formula : (kind k : ℕ) (rows : List ℕ) → kind < 3 → cell kind rows k ≡ formula (shape kind k)
cell-formula zero k rows h = get_or-map formula (get_or shapes 0 []) k 0
cell-formula (suc zero) k rows h = get_or-map formula (get_or shapes 1 []) k 0
cell-formula (suc (suc zero)) k rows h = get_or-map formula (get_or shapes 2 []) k 0
cell-formula (suc (suc (suc kind))) k rows h = absurd (omega arith)

pub formula-shifted : (f w i : ℕ) → i < w → formula f w i ≡ shifted (get_or signs f 0) (get_or shifts f 0) w i
unfolding shifted
formula-shifted zero w i h = sym (mod-back w (64 * w + 0 - 0 + i) i 64 h (omega arith))
formula-shifted (suc zero) w i h = sym (mod_same w (64 * w + 0 - 0 - i) (w - i) 63 (omega arith))
formula-shifted (suc (suc zero)) w i h = sym (mod_same w (64 * w + 1 - 0 + i) (i + 1) 64 (omega arith))
formula-shifted (suc (suc (suc zero))) w i h = sym (mod_same w (64 * w + 0 - 2 - i) (2 * w - 2 - i) 62 (omega arith))
formula-shifted (suc (suc (suc (suc zero)))) w i h = sym (mod-back w (64 * w + 0 - 1 - i) (w - 1 - i) 63 (omega arith) (omega arith))
formula-shifted (suc (suc (suc (suc (suc f))))) w i h = sym (mod-back w (64 * w + 0 - 0 + i) i 64 h (omega arith))

-- the published rows have the sign and shift of each formula: one computed test
unfoldable publishedb : ℕ → ℕ → Bool
unfolding published_rows
publishedb kind k =
    eqb (sign_of (published kind) k) (get_or signs (shape kind k) 0) && eqb (shift_of (published kind) k) (get_or shifts (shape kind k) 0)

published-test : every 3 (λ kind. every column_count (publishedb kind)) ≡ true
unfolding every publishedb
published-test = refl

-- a published kind has no other rows
pub published-rows : (kind : ℕ) (rows : List ℕ) → kind < 3 → rows_of_kind kind rows ≡ published kind
unfolding rows_of_kind
published-rows kind rows h = rw (ne_eqb kind rows_kind (λ e. omega arith), rows_of_kind)

pub own-rows : (rows : List ℕ) → rows_of_kind 3 rows ≡ rows
unfolding rows_of_kind
own-rows rows = refl

allowed-test : every 3 (λ kind. rows_allowed (published kind)) ≡ true
unfolding every published_rows rows_allowed
allowed-test = refl

pub published-allowed : (kind : ℕ) → kind < 3 → rows_allowed (published kind) ≡ true
published-allowed kind h = every-at 3 (λ kind. rows_allowed (published kind)) allowed-test kind h

-- ---- a kind is published, or has rows of its own

pub kind-cases : (kind : ℕ) → AllowedKind kind → (kind < 3) ⊎ (kind ≡ 3)
kind-cases kind h = at (ℕ_discrete kind 3)
  where
    at : Dec (kind ≡ 3) → (kind < 3) ⊎ (kind ≡ 3)
    at (yes e) = inr e
    at (no e) = inl (omega arith)

-- the rows of every kind are in range, where those of the sheet are
pub kind-allowed : (kind : ℕ) (rows : List ℕ) → AllowedKind kind → rows_allowed rows ≡ true → rows_allowed (rows_of_kind kind rows) ≡ true
kind-allowed kind rows k a = at (kind-cases kind k)
  where
    at : (kind < 3) ⊎ (kind ≡ 3) → rows_allowed (rows_of_kind kind rows) ≡ true
    at (inl l) = ap rows_allowed (published-rows kind rows l) ∙ published-allowed kind l
    at (inr e) = ap (λ (k : ℕ). rows_allowed (rows_of_kind k rows)) e ∙ ap rows_allowed (own-rows rows) ∙ a

-- ---- cell: the track map of its row, for every kind

pub own-cell : (rows : List ℕ) (k : ℕ) → k < column_count → cell 3 rows k ≡ row_track rows k
own-cell rows zero h = refl
own-cell rows (suc zero) h = refl
own-cell rows (suc (suc zero)) h = refl
own-cell rows (suc (suc (suc zero))) h = refl
own-cell rows (suc (suc (suc (suc zero)))) h = refl
own-cell rows (suc (suc (suc (suc (suc zero))))) h = refl
own-cell rows (suc (suc (suc (suc (suc (suc k)))))) h = absurd (omega arith)

-- a column that there is not: the track itself
pub no_cell : (kind : ℕ) (rows : List ℕ) → AllowedKind kind → cell kind rows column_count ≡ equal_track
no_cell zero rows h = refl
no_cell (suc zero) rows h = refl
no_cell (suc (suc zero)) rows h = refl
no_cell (suc (suc (suc zero))) rows h = refl
no_cell (suc (suc (suc (suc kind)))) rows h = absurd (omega arith)

module _ (kind : ℕ) (rows : List ℕ) (allowed : AllowedKind kind) where
  abbrev own : List ℕ
  own = rows_of_kind kind rows

  pub cell_row : (k w i : ℕ) → k < column_count → i < w → cell kind rows k w i ≡ row_track own k w i
  unfolding publishedb
  cell_row k w i h l = at (kind-cases kind allowed)
    where
      at : (kind < 3) ⊎ (kind ≡ 3) → cell kind rows k w i ≡ row_track own k w i
      at (inl b) =
          let p = both_true _ _ (every-at column_count (publishedb kind) (every-at 3 (λ kind. every column_count (publishedb kind)) published-test kind b) k h) in
          ap (λ (f : ℕ → ℕ → ℕ). f w i) (cell-formula kind k rows b)
          ∙ formula-shifted (shape kind k) w i l
          ∙ sym (ap₂ (λ (x y : ℕ). shifted x y w i) (eqb-true (sign_of (published kind) k) _ p.0) (eqb-true (shift_of (published kind) k) _ p.1))
          ∙ ap (λ (r : List ℕ). row_track r k w i) (sym (published-rows kind rows b))
      at (inr e) =
          ap (λ (x : ℕ). cell x rows k w i) e
          ∙ ap (λ (f : ℕ → ℕ → ℕ). f w i) (own-cell rows k h)
          ∙ ap (λ (r : List ℕ). row_track r k w i) (sym (ap (λ (x : ℕ). rows_of_kind x rows) e ∙ own-rows rows))

-- ---- row_track: the remainder that the paper names

pub row-remainder : (rows : List ℕ) (k w i : ℕ) → rows_allowed rows ≡ true → k < column_count → i < w → Remainder rows k w i (row_track rows k w i)
row-remainder rows k w i a h l =
    let sum = shifted_sum (sign_of rows k) (shift_of rows k) w i (rows-range rows a k h).low l in
    record { low = shifted-lt (sign_of rows k) (shift_of rows k) w i l; plus = sum.0; minus = sum.1 }
