-- Laws of numbers in decimal (specs/Decimal.antt). Assumes nothing.
-- digits-small, -large: a number below 10, and any other by its tenth. value-digits: digits read back to their number. digits-bytes: each is
-- a byte from '0' to '9'. digits-first: the first of a number above 0 is not '0'. digits-length: a number below 10 ^ k has at most k.
use mathlib.Core.Path.{◌≡◌, refl, sym, ap, ◌∙◌}
use Prim.Native.Nat.{ℕ, zero, suc, ◌+◌, ◌-◌, ◌*◌, ◌/◌, ◌%◌, ◌^◌, ◌≤◌, ◌<◌}
use native.Mathlib.Omega.{arith}
use native.Mathlib.Decide.{dec_lt}
use native.Mathlib.Nat.{pow-suc}
use mathlib.Core.List.{List, [], ◌∷◌, ◌++◌}
use borrow.Author.Tests.{lt-ltb, le-ltb}
use lib.ListN.{length, get_or, length-append}
use Rattle.decimal.specs.Decimal.{digit, digits_in, digits, value_from, value, field}
use Rattle.decimal.specs.Decimal.{digits}

-- ---- digits

digits_in-small : (steps n : ℕ) → n < 10 → digits_in steps n ≡ digit n ∷ []
unfolding digits_in
digits_in-small zero n h = refl
digits_in-small (suc steps) n h = rw (lt-ltb n 10 h, digits_in)

digits_in-large : (steps n : ℕ) → 10 ≤ n → digits_in (suc steps) n ≡ digits_in steps (n / 10) ++ (digit (n % 10) ∷ [])
unfolding digits_in
digits_in-large steps n h = rw (le-ltb n 10 h, digits_in)

-- more steps than are needed change nothing
digits_in-enough : (steps more n : ℕ) → n ≤ steps → n ≤ more → digits_in steps n ≡ digits_in more n
digits_in-enough zero j n a b = digits_in-small 0 n (omega arith) ∙ sym (digits_in-small j n (omega arith))
digits_in-enough (suc i) zero n a b = digits_in-small (suc i) n (omega arith) ∙ sym (digits_in-small 0 n (omega arith))
digits_in-enough (suc i) (suc j) n a b =
    at (dec_lt n 10) (λ l. digits_in-enough i j (n / 10) (omega arith) (omega arith))
  where
    at : Dec (n < 10) → (10 ≤ n → digits_in i (n / 10) ≡ digits_in j (n / 10)) → digits_in (suc i) n ≡ digits_in (suc j) n
    at (yes e) f = digits_in-small (suc i) n e ∙ sym (digits_in-small (suc j) n e)
    at (no e) f =
        digits_in-large i n (omega arith)
        ∙ ap (λ (ds : List ℕ). ds ++ (digit (n % 10) ∷ [])) (f (omega arith))
        ∙ sym (digits_in-large j n (omega arith))

pub digits-small : (n : ℕ) → n < 10 → digits n ≡ digit n ∷ []
unfolding digits
digits-small n h = digits_in-small n n h

pub digits-large : (n : ℕ) → 10 ≤ n → digits n ≡ digits (n / 10) ++ (digit (n % 10) ∷ [])
unfolding digits
digits-large zero h = absurd (omega arith)
digits-large (suc n) h =
    digits_in-large n (suc n) h
    ∙ ap (λ (ds : List ℕ). ds ++ (digit (suc n % 10) ∷ [])) (digits_in-enough n (suc n / 10) (suc n / 10) (omega arith) (omega arith))

-- what holds of the digits of a number below 10, and of any other where it holds of its tenth, holds of all
module _ (P : ℕ → List ℕ → Type 0)
    (small : (n : ℕ) → n < 10 → P n (digit n ∷ []))
    (large : (n : ℕ) → 10 ≤ n → P (n / 10) (digits (n / 10)) → P n (digits (n / 10) ++ (digit (n % 10) ∷ [])))
  where
    digits-below : (bound n : ℕ) → n ≤ bound → P n (digits n)
    digits-below zero n l = let e : n < 10 = omega arith in rw (digits-small n e) (small n e)
    digits-below (suc bound) n l = at (dec_lt n 10) (λ z. digits-below bound (n / 10) (omega arith))
      where
        at : Dec (n < 10) → (10 ≤ n → P (n / 10) (digits (n / 10))) → P n (digits n)
        at (yes e) f = rw (digits-small n e) (small n e)
        at (no e) f = let z : 10 ≤ n = omega arith in rw (digits-large n z) (large n z (f z))

    digits-all : (n : ℕ) → P n (digits n)
    digits-all n = digits-below n n (omega arith)

-- a tenth is less, and has one digit less
pub digits-tenth : (n : ℕ) → 10 ≤ n → (n / 10 < n) × (length (digits n) ≡ length (digits (n / 10)) + 1)
digits-tenth n h =
    (omega arith, ap length (digits-large n h) ∙ length-append (digits (n / 10)) (digit (n % 10) ∷ []))

-- ---- value

value_from-append : (n : ℕ) (bs : List ℕ) (b : ℕ) → value_from n (bs ++ (b ∷ [])) ≡ value_from n bs * 10 + (b - 48)
unfolding value_from
value_from-append n [] b = refl
value_from-append n (x ∷ bs) b = value_from-append (n * 10 + (x - 48)) bs b

pub value-digits : (n : ℕ) → value (digits n) ≡ n
unfolding value_from
value-digits = digits-all (λ n ds. value ds ≡ n) (λ n h. omega arith)
    (λ n h e. omega (arith, value_from-append 0 (digits (n / 10)) (digit (n % 10))))

-- ---- bytes

pub digits-filled : (n : ℕ) → 1 ≤ length (digits n)
digits-filled = digits-all (λ n ds. 1 ≤ length ds) (λ n h. omega arith)
    (λ n h e. omega (arith, length-append (digits (n / 10)) (digit (n % 10) ∷ [])))

-- each byte is '0' to '9'
abbrev pub Decimals : List ℕ → Type 0
Decimals ds = (i : ℕ) → i < length ds → (48 ≤ get_or ds i 0) × (get_or ds i 0 ≤ 57)

one_more : (ds : List ℕ) (d : ℕ) → d < 10 → Decimals ds → Decimals (ds ++ (digit d ∷ []))
one_more [] d h f zero l = (omega arith, omega arith)
one_more [] d h f (suc i) l = absurd (omega arith)
one_more (x ∷ ds) d h f zero l = f 0 (omega arith)
one_more (x ∷ ds) d h f (suc i) l = one_more ds d h (λ j k. f (suc j) (omega arith)) i (omega arith)

pub digits-bytes : (n : ℕ) → Decimals (digits n)
digits-bytes = digits-all (λ n ds. Decimals ds) (λ n h. one_more [] n h (λ i l. absurd (omega arith)))
    (λ n h f. one_more (digits (n / 10)) (n % 10) (omega arith) f)

-- no zero leads, but in the digits of 0 itself
pub digits-first : (n : ℕ) → 1 ≤ n → 49 ≤ get_or (digits n) 0 0
digits-first = digits-all (λ n ds. 1 ≤ n → 49 ≤ get_or ds 0 0) (λ n h l. omega arith)
    (λ n h f l. front (digits (n / 10)) _ (digits-filled (n / 10)) (f (omega arith)))
  where
    front : (ds : List ℕ) (d : ℕ) → 1 ≤ length ds → 49 ≤ get_or ds 0 0 → 49 ≤ get_or (ds ++ (d ∷ [])) 0 0
    front [] d h l = absurd (omega arith)
    front (x ∷ ds) d h l = l

-- ---- length

pub digits-length : (k n : ℕ) → n < 10 ^ suc k → length (digits n) ≤ suc k
digits-length zero n h = omega (arith, pow-suc 10 0, ap length (digits-small n (omega (arith, pow-suc 10 0))))
digits-length (suc k) n h = at (dec_lt n 10) (λ z. digits-length k (n / 10) (omega (arith, pow-suc 10 (suc k))))
  where
    at : Dec (n < 10) → (10 ≤ n → length (digits (n / 10)) ≤ suc k) → length (digits n) ≤ suc (suc k)
    at (yes e) f = omega (arith, ap length (digits-small n e))
    at (no e) f =
        let z : 10 ≤ n = omega arith in
        omega (arith, f z, digits-tenth n z)

-- ---- field

pub field-length : (word : List ℕ) (x : ℕ) → length (field word x) ≡ length word + length (digits x)
unfolding field
field-length word x = length-append word (digits x)
