-- Laws of the numbers and their order (specs/Numbers.antt). Assumes nothing.
-- Clear: no condition before a place holds. first_number: the number at the first place whose condition holds, 0 where none does; where
-- it is 0, each number's condition; of two lists, one behind the other. or_number: 0 where both are, the first where it is not 0, else the second.
-- space_conditions: the output is short, or has room.
use mathlib.Core.Path.{◌≡◌, refl, sym, ap, ◌∙◌}
use mathlib.Core.Bool.{Bool, true, false, true≢false}
use mathlib.Core.List.{List, [], ◌∷◌, ◌++◌}
use Prim.Native.Nat.{ℕ, zero, suc, ◌+◌, ◌≤◌, ◌<◌}
use native.Mathlib.Omega.{arith}
use native.Mathlib.Decide.{dec_le}
use lib.Dec.{eqb}
use lib.ListN.{length, get_or}
use borrow.Author.Tests.{lt-ltb, le-ltb}
use Rattle.numbers.specs.Numbers.{first_number, space_no, space_conditions}

-- ---- conditions

-- the number and the condition at place k
abbrev pub number_at : List (ℕ × Bool) → ℕ → ℕ
number_at xs k = (get_or xs k (0, false)).0

abbrev pub condition_at : List (ℕ × Bool) → ℕ → Bool
condition_at xs k = (get_or xs k (0, false)).1

-- the condition of the number x
abbrev pub condition_of : ℕ → List (ℕ × Bool) → Bool
condition_of x [] = false
condition_of x ((n, b) ∷ xs) = elim (eqb x n) [ true ↦ b | false ↦ condition_of x xs ]

-- no number is 0
abbrev pub numbered : List (ℕ × Bool) → Bool
numbered [] = true
numbered ((zero, b) ∷ xs) = false
numbered ((suc n, b) ∷ xs) = numbered xs

-- ---- Clear

-- none of the first m conditions holds
abbrev pub Clear : List (ℕ × Bool) → ℕ → Type 0
Clear xs m = (k : ℕ) → k < m → condition_at xs k ≡ false

pub clear_none : (xs : List (ℕ × Bool)) → Clear xs 0
clear_none xs k h = absurd (omega arith)

pub clear-more : (xs : List (ℕ × Bool)) (m : ℕ) → Clear xs m → condition_at xs m ≡ false → Clear xs (m + 1)
clear-more xs m c e k h = at (dec_le m k)
  where
    at : Dec (m ≤ k) → condition_at xs k ≡ false
    at (yes l) = let q : k ≡ m = omega arith in ap (condition_at xs) q ∙ e
    at (no l) = c k (omega arith)

-- ---- first_number

pub first_number-at : (xs : List (ℕ × Bool)) (m : ℕ) → Clear xs m → condition_at xs m ≡ true → first_number xs ≡ number_at xs m
unfolding first_number
first_number-at [] m c e = absurd (true≢false (sym e))
first_number-at ((n, true) ∷ xs) zero c e = refl
first_number-at ((n, false) ∷ xs) zero c e = absurd (true≢false (sym e))
first_number-at ((n, true) ∷ xs) (suc m) c e = absurd (true≢false (c 0 (omega arith)))
first_number-at ((n, false) ∷ xs) (suc m) c e = first_number-at xs m (λ k h. c (suc k) (omega arith)) e

pub first_number-none : (xs : List (ℕ × Bool)) → Clear xs (length xs) → first_number xs ≡ 0
unfolding first_number
first_number-none [] c = refl
first_number-none ((n, true) ∷ xs) c = absurd (true≢false (c 0 (omega arith)))
first_number-none ((n, false) ∷ xs) c = first_number-none xs (λ k h. c (suc k) (omega arith))

-- where no number is given, no number's condition holds
pub first_number-clear : (xs : List (ℕ × Bool)) → numbered xs ≡ true → first_number xs ≡ 0 → (x : ℕ) → condition_of x xs ≡ false
unfolding first_number
first_number-clear [] n e x = refl
first_number-clear ((zero, b) ∷ xs) n e x = absurd (true≢false (sym n))
first_number-clear ((suc y, true) ∷ xs) n e x = absurd (omega arith)
first_number-clear ((suc y, false) ∷ xs) n e x = at (eqb x (suc y)) (first_number-clear xs n e x)
  where
    at : (z : Bool) → condition_of x xs ≡ false → elim z [ true ↦ false | false ↦ condition_of x xs ] ≡ false
    at true h = refl
    at false h = h

-- ---- or_number

-- the number x, or where x is 0, y: the tests of y come after those of x
unfoldable pub or_number : ℕ → ℕ → ℕ
or_number zero y = y
or_number (suc x) y = suc x

pub first_number-append : (xs ys : List (ℕ × Bool)) → numbered xs ≡ true → first_number (xs ++ ys) ≡ or_number (first_number xs) (first_number ys)
unfolding first_number or_number
first_number-append [] ys n = refl
first_number-append ((zero, b) ∷ xs) ys n = absurd (true≢false (sym n))
first_number-append ((suc x, true) ∷ xs) ys n = refl
first_number-append ((suc x, false) ∷ xs) ys n = first_number-append xs ys n

pub or_number-zero : (x y : ℕ) → or_number x y ≡ 0 → (x ≡ 0) × (y ≡ 0)
unfolding or_number
or_number-zero zero y e = (refl, e)
or_number-zero (suc x) y e = absurd (omega arith)

-- the first number, where it is not 0
pub or_number-first : (x y : ℕ) → (x ≡ 0 → ⊥) → or_number x y ≡ x
unfolding or_number
or_number-first zero y h = absurd (h refl)
or_number-first (suc x) y h = refl

-- the second, where the first is 0
pub or_number-second : (x y : ℕ) → x ≡ 0 → or_number x y ≡ y
unfolding or_number
or_number-second zero y e = refl
or_number-second (suc x) y e = absurd (omega arith)

-- ---- two lists, one behind the other

module _ (xs ys : List (ℕ × Bool)) where
  -- the first list's number, where it is not 0
  pub first_number-before : numbered xs ≡ true → (first_number xs ≡ 0 → ⊥) → first_number (xs ++ ys) ≡ first_number xs
  first_number-before n h = first_number-append xs ys n ∙ or_number-first (first_number xs) (first_number ys) h

  -- the second's, where it is 0
  pub first_number-rest : numbered xs ≡ true → first_number xs ≡ 0 → first_number (xs ++ ys) ≡ first_number ys
  first_number-rest n e = first_number-append xs ys n ∙ or_number-second (first_number xs) (first_number ys) e

  pub first_number-both : numbered xs ≡ true → first_number (xs ++ ys) ≡ 0 → (first_number xs ≡ 0) × (first_number ys ≡ 0)
  first_number-both n e = or_number-zero (first_number xs) (first_number ys) (sym (first_number-append xs ys n) ∙ e)

-- a list behind it that gives none
pub first_number-first : (xs ys : List (ℕ × Bool)) → first_number ys ≡ 0 → first_number (xs ++ ys) ≡ first_number xs
unfolding first_number
first_number-first [] ys e = e
first_number-first ((x, true) ∷ xs) ys e = refl
first_number-first ((x, false) ∷ xs) ys e = first_number-first xs ys e

-- ---- space_conditions

module _ (needed given : ℕ) where
  pub space-short : given < needed → first_number (space_conditions needed given) ≡ space_no
  unfolding first_number
  space-short h = rw (lt-ltb given needed h, first_number)

  pub space-room : needed ≤ given → first_number (space_conditions needed given) ≡ 0
  unfolding first_number
  space-room h = rw (le-ltb given needed h, first_number)
