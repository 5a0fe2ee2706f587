-- Laws of the marks (specs/Marks.antt). Assumes nothing.
-- bit: as the code reads and makes it, of no mask, 0 or 1, of a mask with one bit more, which still fits; a set bit.
-- held_at: of fresh marks, of a free wire, of a held wire, of marks with one wire more; the held and the free tracks below a width, counted.
-- holding: its length.
-- releasing: takes back what holding marked.
use mathlib.Core.Path.{◌≡◌, refl, sym, ap, ◌∙◌}
use mathlib.Core.Bool.{Bool, true, false, not, ◌&&◌, ◌||◌}
use mathlib.Core.List.{List}
use Prim.Native.Nat.{ℕ, zero, suc, ◌+◌, ◌-◌, ◌*◌, ◌/◌, ◌%◌, ◌^◌, ◌≤◌, ◌<◌}
use native.Mathlib.Omega.{arith}
use native.Mathlib.Nat.{mod-le, div-div-eq-div-mul, div-one, pow-suc, one-mul, mod-eq_of_lt, mod-lt, mod-one}
use borrow.Author.Tests.{eqb-true, eqb-false, eq-eqb}
use lib.Arith.{mod-mul}
use lib.Count.{ones, ones-le, ones_in, ones_cat}
use lib.Dec.{eqb}
use lib.ListN.{length, get_or, set, replicate, length-set}
use lib.Pow.{pow-lt, pow_pos}
use lib.Seq.{get_or-set_same, get_or-set_other, set-set, set-get_or}
use Rattle.bounded.specs.Bounded.{count_below}
use Rattle.marks.specs.Marks.{bit, held_at, holding, releasing}

-- ---- bit

twice : (t : ℕ) → 2 ^ suc t ≡ 2 * 2 ^ t
twice t = let e = pow-suc 2 t in omega arith

-- as the code reads it
pub bit-shift : (m t : ℕ) → m / 2 ^ t % 2 ≡ bit m t
unfolding bit
bit-shift m zero = ap (λ (x : ℕ). x % 2) (div-one m)
bit-shift m (suc t) = ap (λ (x : ℕ). x % 2) (ap (λ (p : ℕ). m / p) (twice t) ∙ sym (div-div-eq-div-mul m 2 (2 ^ t))) ∙ bit-shift (m / 2) t

-- as the code makes it
pub one_shift : (k t : ℕ) → t < k → 1 * 2 ^ t % 2 ^ k ≡ 2 ^ t
one_shift k t h = rw (one-mul (2 ^ t)) (mod-eq_of_lt (pow-lt h))

pub bit-zero : (t : ℕ) → bit 0 t ≡ 0
unfolding bit
bit-zero zero = refl
bit-zero (suc t) = bit-zero t

pub bit-lt : (m t : ℕ) → bit m t < 2
unfolding bit
bit-lt m zero = omega arith
bit-lt m (suc t) = bit-lt (m / 2) t

-- bit t more is bit t - 1 more of the half
half : (m t : ℕ) → (m + 2 ^ suc t) / 2 ≡ m / 2 + 2 ^ t
half m t = omega (arith, twice t)

pub bit-set-same : (m t : ℕ) → bit m t ≡ 0 → bit (m + 2 ^ t) t ≡ 1
unfolding bit
bit-set-same m zero h = omega arith
bit-set-same m (suc t) h = rw (half m t) (bit-set-same (m / 2) t h)

pub bit-set-other : (m t u : ℕ) → bit m t ≡ 0 → (u ≡ t → ⊥) → bit (m + 2 ^ t) u ≡ bit m u
unfolding bit
bit-set-other m zero zero h n = absurd (n refl)
bit-set-other m zero (suc u) h n = let e : (m + 2 ^ 0) / 2 ≡ m / 2 = omega arith in ap (λ (x : ℕ). bit x u) e
bit-set-other m (suc t) zero h n = omega (arith, twice t)
bit-set-other m (suc t) (suc u) h n = rw (half m t) (bit-set-other (m / 2) t u h (λ e. n (ap suc e)))

-- a mask of k bits stays one
pub bit-set-lt : (k m t : ℕ) → m < 2 ^ k → t < k → bit m t ≡ 0 → m + 2 ^ t < 2 ^ k
unfolding bit
bit-set-lt zero m t f l h = absurd (omega arith)
bit-set-lt (suc k) m zero f l h = omega (arith, twice k)
bit-set-lt (suc k) m (suc t) f l h =
    let r = bit-set-lt k (m / 2) t (omega (arith, twice k)) (omega arith) h in
    omega (arith, twice k, twice t)

-- a set bit can be taken from its mask
pub bit_le : (m t : ℕ) → bit m t ≡ 1 → 2 ^ t ≤ m
unfolding bit
bit_le m zero h = omega arith
bit_le m (suc t) h = let r = bit_le (m / 2) t h in omega (arith, twice t)

-- ---- held_at

-- fresh marks hold no wire
pub held_at-fresh : (n c t : ℕ) → held_at (replicate n 0) c t ≡ false
unfolding held_at
held_at-fresh n c t = ap (λ (m : ℕ). eqb (bit m t) 1) (mask n c) ∙ ap (λ (b : ℕ). eqb b 1) (bit-zero t)
  where
    mask : (n c : ℕ) → ◌≡◌ {A = ℕ} (get_or (replicate n 0) c 0) 0
    mask zero c = refl
    mask (suc n) zero = refl
    mask (suc n) (suc c) = mask n c

-- the bit of a wire that is free
pub free-bit : (m : List ℕ) (c t : ℕ) → held_at m c t ≡ false → bit (get_or m c 0) t ≡ 0
unfolding held_at
free-bit m c t e = let n = eqb-false (bit (get_or m c 0) t) 1 e in omega (arith, bit-lt (get_or m c 0) t)

-- the bit of a wire that is held
pub held-bit : (m : List ℕ) (c t : ℕ) → held_at m c t ≡ true → bit (get_or m c 0) t ≡ 1
unfolding held_at
held-bit m c t e = eqb-true (bit (get_or m c 0) t) 1 e

-- one wire more
pub held_at-holding : (m : List ℕ) (c t d u : ℕ) → c < length m → held_at m c t ≡ false
    → held_at (holding m c t) d u ≡ (eqb c d && eqb t u || held_at m d u)
unfolding held_at holding
held_at-holding m c t d u h e = at (eqb c d) (eqb t u) refl refl
  where
    same : c ≡ d → get_or (holding m c t) d 0 ≡ get_or m c 0 + 2 ^ t
    same p = ap (λ (x : ℕ). get_or (holding m c t) x 0) (sym p) ∙ get_or-set_same m c (get_or m c 0 + 2 ^ t) 0 h

    at : (a b : Bool) → eqb c d ≡ a → eqb t u ≡ b → held_at (holding m c t) d u ≡ (a && b || held_at m d u)
    at false b p q = ap (λ (x : ℕ). eqb (bit x u) 1) (get_or-set_other m c d (get_or m c 0 + 2 ^ t) 0 (λ x. eqb-false c d p (sym x)))
    at true true p q =
        ap (λ (x : ℕ). eqb (bit x u) 1) (same (eqb-true c d p))
        ∙ eq-eqb _ 1 (ap (bit (get_or m c 0 + 2 ^ t)) (sym (eqb-true t u q)) ∙ bit-set-same (get_or m c 0) t (free-bit m c t e))
    at true false p q =
        ap (λ (x : ℕ). eqb (bit x u) 1) (same (eqb-true c d p))
        ∙ ap (λ (x : ℕ). eqb x 1) (bit-set-other (get_or m c 0) t u (free-bit m c t e) (λ x. eqb-false t u q (sym x)))
        ∙ ap (λ (x : ℕ). eqb (bit (get_or m x 0) u) 1) (eqb-true c d p)

-- the set bits of a mask below w, and the free tracks below w, are w together
pub ones-free : (m : List ℕ) (c w : ℕ) → ones (get_or m c 0 % 2 ^ w) + count_below w (λ t. not (held_at m c t)) ≡ w
unfolding ones ones_in count_below
ones-free m c zero = ap (λ (x : ℕ). ones x + 0) (mod-one (get_or m c 0))
ones-free m c (suc w) = at (held_at m c w) refl (ones-free m c w)
  where
    mask : ℕ
    mask = get_or m c 0

    -- bit w stands above the w bits below it
    split : ones (mask % 2 ^ suc w) ≡ ones (bit mask w) + ones (mask % 2 ^ w)
    split =
        ap ones (ap (λ (p : ℕ). mask % p) (twice w) ∙ mod-mul mask {m = 2} {c = 2 ^ w} (omega arith) (pow_pos w)
        ∙ ap (λ (b : ℕ). b * 2 ^ w + mask % 2 ^ w) (bit-shift mask w))
        ∙ ones_cat w (bit mask w) (mask % 2 ^ w) (mod-lt mask (pow_pos w))

    at : (b : Bool) → held_at m c w ≡ b → ones (mask % 2 ^ w) + count_below w (λ t. not (held_at m c t)) ≡ w
        → ones (mask % 2 ^ suc w) + (count_below w (λ t. not (held_at m c t)) + elim (not b) [ true ↦ 1 | false ↦ 0 ]) ≡ suc w
    at true e rec = omega (arith, split, ap ones (held-bit m c w e))
    at false e rec = omega (arith, split, ap ones (free-bit m c w e))

-- ---- holding

pub holding-length : (m : List ℕ) (c t : ℕ) → length (holding m c t) ≡ length m
unfolding holding
holding-length m c t = length-set m c (get_or m c 0 + 2 ^ t)

-- ---- releasing

pub releasing-holding : (m : List ℕ) (c t : ℕ) → c < length m → releasing (holding m c t) c t ≡ m
unfolding holding releasing
releasing-holding m c t h =
    let e : get_or m c 0 + 2 ^ t - 2 ^ t ≡ get_or m c 0 = omega arith in
    set-set m c (get_or m c 0 + 2 ^ t) _
    ∙ ap (λ (x : ℕ). set m c (x - 2 ^ t)) (get_or-set_same m c (get_or m c 0 + 2 ^ t) 0 h)
    ∙ ap (λ (x : ℕ). set m c x) e
    ∙ set-get_or m c 0

-- ---- what the code's own steps come to

pub ruleset bit_steps = (bit-shift, one_shift, bit-set-lt, bit_le, free-bit, held-bit)

pub ruleset counts = (ones-free, one_shift, pow_pos, ones-le, mod-le)
