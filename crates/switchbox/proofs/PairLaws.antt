-- Laws of the generator's table (specs/Generator.antt), over all rows. Assumes nothing.
-- pair_at: there, back, and a side with itself; its shift, undone from the other end; its sign. table_from: what it has for a pair.
use mathlib.Core.Path.{◌≡◌, refl, sym, subst₂, ap, ap₂, ◌∙◌}
use mathlib.Core.Bool.{Bool, true, false, not, ◌&&◌, ◌||◌, true≢false}
use mathlib.Core.List.{List}
use Prim.Native.Nat.{ℕ, ◌-◌, ◌/◌, ◌%◌, ◌≤◌, ◌<◌}
use native.Mathlib.Omega.{arith}
use native.Mathlib.Decide.{dec_le, ℕ_discrete}
use lib.Dec.{ltb, eqb}
use lib.ListN.{get_or}
use borrow.Author.Tests.{ltb-true, eqb-true, eq-eqb, ne_eqb}
use Rattle.bounded.specs.Bounded.{every}
use Rattle.bounded.specs.Lists.{place}
use Rattle.bounded.proofs.BoundedLaws.{every-at, build-at}
use Rattle.grid.proofs.GridLaws.{digit-div, digit-mod}
use Rattle.switchbox.specs.SwitchBox.{side_pair, column_count, sign_of, shift_of, adds, takes, rows_allowed, shifted, column}
use Rattle.switchbox.specs.Generator.{shift_back, pair_at, pair_count, table_from, table_track}
use Rattle.switchbox.proofs.ShiftLaws.{Small, Opposite, both_plus, both_minus, adds-low, adds-high, takes_low, takes-high}
use Rattle.switchbox.proofs.RowLaws.{InRange, rows-range}

-- ---- pair_at: a pair of sides stands in the table's order, in the other order, or is a side with itself

pub data Reading (from to : ℕ) : Type 0 where
  there : ltb (column from to) column_count ≡ true → ltb (column to from) column_count ≡ false → Reading from to
  back : ltb (column from to) column_count ≡ false → ltb (column to from) column_count ≡ true → Reading from to
  self : ltb (column from to) column_count ≡ false → column to from ≡ column_count → ltb (column to from) column_count ≡ false → Reading from to

-- no pair has a column in both orders, and a pair with none has place 6: one computed test
unfoldable columnb : ℕ → ℕ → Bool
unfolding place
columnb from to =
    (not (ltb (column from to) column_count) || not (ltb (column to from) column_count))
    && (ltb (column to from) column_count || eqb (column to from) column_count)

column-test : every 4 (λ from. every 4 (columnb from)) ≡ true
unfolding every columnb
column-test = refl

pub reading : (from to : ℕ) → from < 4 → to < 4 → Reading from to
unfolding columnb
reading from to h l =
    at (ltb (column from to) column_count) (ltb (column to from) column_count) refl refl
    (every-at 4 (columnb from) (every-at 4 (λ from. every 4 (columnb from)) column-test from h) to l)
  where
    at : (a b : Bool) → ltb (column from to) column_count ≡ a → ltb (column to from) column_count ≡ b
        → ((not a || not b) && (b || eqb (column to from) column_count)) ≡ true → Reading from to
    at true true e f t = absurd (true≢false (sym t))
    at true false e f t = there e f
    at false true e f t = back e f
    at false false e f t = self e (eqb-true _ column_count t) f

module _ (rows : List ℕ) (from to : ℕ) where
  pub pair_at-there : ltb (column from to) column_count ≡ true → pair_at rows from to ≡ (sign_of rows (column from to), shift_of rows (column from to))
  unfolding pair_at
  pair_at-there e = rw (e, pair_at)

  pub pair_at-back : ltb (column from to) column_count ≡ false → ltb (column to from) column_count ≡ true
      → pair_at rows from to ≡ (sign_of rows (column to from), shift_back (sign_of rows (column to from)) (shift_of rows (column to from)))
  unfolding pair_at
  pair_at-back e f = rw (e, f, pair_at)

  pub pair_at-self : ltb (column from to) column_count ≡ false → ltb (column to from) column_count ≡ false → pair_at rows from to ≡ (0, 0)
  unfolding pair_at
  pair_at-self e f = rw (e, f, pair_at)

-- a row and the same row from the other end are opposite, either way

pub shift_back-plus : (sign b : ℕ) → sign ≡ 0 → shift_back sign b ≡ (256 - b) % 256
unfolding shift_back
shift_back-plus sign b e = rw (eq-eqb sign 0 e, shift_back)

pub shift_back-minus : (sign b : ℕ) → (sign ≡ 0 → ⊥) → shift_back sign b ≡ b
unfolding shift_back
shift_back-minus sign b e = rw (ne_eqb sign 0 e, shift_back)

-- a negated shift adds what the shift takes away
negated : (b : ℕ) → takes b ≤ 32 → adds b ≤ 31 → (adds ((256 - b) % 256) ≡ takes b) × (takes ((256 - b) % 256) ≡ adds b)
negated b low high = at (dec_le 128 b) (dec_le 1 b)
  where
    at : Dec (128 ≤ b) → Dec (1 ≤ b) → (adds ((256 - b) % 256) ≡ takes b) × (takes ((256 - b) % 256) ≡ adds b)
    at (yes l) p =
        let t = takes-high b l in
        let a = adds-high b l in
        let c : (256 - b) % 256 < 128 = omega arith in
        (omega (arith, adds-low ((256 - b) % 256) c), omega (arith, takes_low ((256 - b) % 256) c))
    at (no l) (yes p) =
        let t = takes_low b (omega arith) in
        let a = adds-low b (omega arith) in
        let c : 128 ≤ (256 - b) % 256 = omega arith in
        (omega (arith, adds-high ((256 - b) % 256) c), omega (arith, takes-high ((256 - b) % 256) c))
    at (no l) (no p) =
        let t = takes_low b (omega arith) in
        let a = adds-low b (omega arith) in
        let c : (256 - b) % 256 < 128 = omega arith in
        (omega (arith, adds-low ((256 - b) % 256) c), omega (arith, takes_low ((256 - b) % 256) c))

module _ (rows : List ℕ) (k : ℕ) (r : InRange rows k) where
  abbrev row_there : ℕ × ℕ
  row_there = (sign_of rows k, shift_of rows k)

  abbrev row_back : ℕ × ℕ
  row_back = (sign_of rows k, shift_back (sign_of rows k) (shift_of rows k))

  row-opposite : Opposite row_there row_back × Opposite row_back row_there
  row-opposite = at (ℕ_discrete (sign_of rows k) 0)
    where
      at : Dec (sign_of rows k ≡ 0) → Opposite row_there row_back × Opposite row_back row_there
      at (yes e) =
          let b = shift_back-plus (sign_of rows k) (shift_of rows k) e in
          let n = negated (shift_of rows k) r.low r.high in
          let u = ap adds b ∙ n.0 in
          let d = ap takes b ∙ n.1 in
          (both_plus e e u d, both_plus e e (sym d) (sym u))
      at (no n) = let b = shift_back-minus (sign_of rows k) (shift_of rows k) n in (both_minus n refl (sym b), both_minus n refl b)

  pub row_small : Small row_there.1 × Small row_back.1
  row_small = (record { low = r.low; high = omega (arith, r.high) }, at (ℕ_discrete (sign_of rows k) 0))
    where
      at : Dec (sign_of rows k ≡ 0) → Small row_back.1
      at (yes e) =
          let b = shift_back-plus (sign_of rows k) (shift_of rows k) e in
          let n = negated (shift_of rows k) r.low r.high in
          record { low = omega (arith, ap takes b ∙ n.1, r.high); high = omega (arith, ap adds b ∙ n.0, r.low) }
      at (no n) =
          let b = shift_back-minus (sign_of rows k) (shift_of rows k) n in
          record { low = omega (arith, ap takes b, r.low); high = omega (arith, ap adds b, r.high) }

-- each pair is undone from the other end
module _ (rows : List ℕ) (a : rows_allowed rows ≡ true) (from to : ℕ) (h : from < 4) (l : to < 4) where
  pub pair_at-opposite : Small (pair_at rows from to).1 × Opposite (pair_at rows from to) (pair_at rows to from)
  unfolding adds takes
  pair_at-opposite = at (reading from to h l)
    where
      both : (p q p' q' : ℕ × ℕ) → p ≡ p' → q ≡ q' → Small p'.1 × Opposite p' q' → Small p.1 × Opposite p q
      both p q p' q' e f x = subst₂ (λ (p q : ℕ × ℕ). Small p.1 × Opposite p q) (sym e) (sym f) x

      at : Reading from to → Small (pair_at rows from to).1 × Opposite (pair_at rows from to) (pair_at rows to from)
      at (there e f) =
          let r = rows-range rows a (column from to) (ltb-true _ column_count e) in
          both _ _ _ _ (pair_at-there rows from to e) (pair_at-back rows to from f e)
          ((row_small rows (column from to) r).0, (row-opposite rows (column from to) r).0)
      at (back e f) =
          let r = rows-range rows a (column to from) (ltb-true _ column_count f) in
          both _ _ _ _ (pair_at-back rows from to e f) (pair_at-there rows to from f)
          ((row_small rows (column to from) r).1, (row-opposite rows (column to from) r).1)
      at (self e q f) =
          both _ _ _ _ (pair_at-self rows from to e f) (pair_at-self rows to from f e)
          (record { low = omega arith; high = omega arith }, both_plus refl refl refl refl)

  pub pair_at-sign : (pair_at rows from to).0 ≤ 1
  pair_at-sign = at (reading from to h l)
    where
      at : Reading from to → (pair_at rows from to).0 ≤ 1
      at (there e f) =
          omega (arith, ap (λ (x : ℕ × ℕ). x.0) (pair_at-there rows from to e), (rows-range rows a (column from to) (ltb-true _ column_count e)).sign)
      at (back e f) =
          omega (arith, ap (λ (x : ℕ × ℕ). x.0) (pair_at-back rows from to e f), (rows-range rows a (column to from) (ltb-true _ column_count f)).sign)
      at (self e q f) = omega (arith, ap (λ (x : ℕ × ℕ). x.0) (pair_at-self rows from to e f))

-- ---- table_from: what it has for a pair

module _ (rows : List ℕ) (from to : ℕ) (h : from < 4) (l : to < 4) where
  pub pair_lt : side_pair from to < pair_count
  pair_lt = omega arith

  -- the sides of the pair, read back from its number
  sides-of : pair_at rows (side_pair from to / 4) (side_pair from to % 4) ≡ pair_at rows from to
  sides-of = ap₂ (pair_at rows) (digit-div from 4 to l) (digit-mod from 4 to l)

  pub table-sign : get_or (table_from rows).signs (side_pair from to) 0 ≡ (pair_at rows from to).0
  unfolding table_from
  table-sign = build-at pair_count (λ m. (pair_at rows (m / 4) (m % 4)).0) (side_pair from to) 0 pair_lt ∙ ap (λ (x : ℕ × ℕ). x.0) sides-of

  pub table-shift : get_or (table_from rows).shifts (side_pair from to) 0 ≡ (pair_at rows from to).1
  unfolding table_from
  table-shift = build-at pair_count (λ m. (pair_at rows (m / 4) (m % 4)).1) (side_pair from to) 0 pair_lt ∙ ap (λ (x : ℕ × ℕ). x.1) sides-of

  pub table_track-pair : (w i : ℕ) → table_track (table_from rows) w from to i ≡ shifted (pair_at rows from to).0 (pair_at rows from to).1 w i
  table_track-pair w i = ap₂ (λ (x y : ℕ). shifted x y w i) table-sign table-shift
