-- Laws of shifts (specs/SwitchBox.antt), over all widths. Assumes nothing.
-- adds, takes: by the byte. shifted: the remainder that the paper names, within range, undone by the opposite. mapped: the same with a shift
-- below w. MapIs: of functions that agree below w, and the map of every track to itself.
use mathlib.Core.Path.{◌≡◌, refl, sym, subst, ap, ap₂, ◌∙◌}
use mathlib.Core.Bool.{Bool, true, false}
use Prim.Native.Nat.{ℕ, ◌+◌, ◌-◌, ◌*◌, ◌/◌, ◌%◌, ◌≤◌, ◌<◌}
use native.Mathlib.Omega.{arith}
use native.Mathlib.Decide.{ℕ_discrete}
use native.Mathlib.Nat.{add_comm, mod-lt, mod-eq_of_lt, div-add-mod', add-mul-mod_self_right, add-mod-mod}
use lib.Dec.{eqb}
use borrow.Author.Tests.{lt-ltb, le-ltb, eq-eqb, ne_eqb}
use Rattle.switchbox.specs.declared.TrackMap.{TrackMap}
use Rattle.switchbox.specs.SwitchBox.{adds, takes, shift_on, shifted}
use Rattle.switchbox.specs.Facts.{mapped, MapIs}

-- ---- adds, takes: by the byte

pub adds-low : (b : ℕ) → b < 128 → adds b ≡ b
unfolding adds
adds-low b h = rw (lt-ltb b 128 h, adds)

pub takes_low : (b : ℕ) → b < 128 → takes b ≡ 0
unfolding takes
takes_low b h = rw (lt-ltb b 128 h, takes)

pub adds-high : (b : ℕ) → 128 ≤ b → adds b ≡ 0
unfolding adds
adds-high b h = rw (le-ltb b 128 h, adds)

pub takes-high : (b : ℕ) → 128 ≤ b → takes b ≡ 256 - b
unfolding takes
takes-high b h = rw (le-ltb b 128 h, takes)

-- ---- shifted: the shift plus or minus the track

-- equal up to a number of widths
pub mod_same : (w x y k : ℕ) → x ≡ y + k * w → x % w ≡ y % w
mod_same w x y k e = ap (λ (z : ℕ). z % w) e ∙ add-mul-mod_self_right y k w

pub mod-back : (w x i k : ℕ) → i < w → x ≡ i + k * w → x % w ≡ i
mod-back w x i k h e = mod_same w x i k e ∙ mod-eq_of_lt h

shifted-plus : (sign b w i : ℕ) → eqb sign 0 ≡ true → shifted sign b w i ≡ (shift_on w b + i) % w
unfolding shifted
shifted-plus sign b w i e = rw (e, shifted)

shifted-minus : (sign b w i : ℕ) → eqb sign 0 ≡ false → shifted sign b w i ≡ (shift_on w b - i) % w
unfolding shifted
shifted-minus sign b w i e = rw (e, shifted)

pub shifted-lt : (sign b w i : ℕ) → i < w → shifted sign b w i < w
shifted-lt sign b w i h = at (eqb sign 0) refl
  where
    at : (x : Bool) → eqb sign 0 ≡ x → shifted sign b w i < w
    at true e = subst (λ (y : ℕ). y < w) (sym (shifted-plus sign b w i e)) (mod-lt (shift_on w b + i) (omega arith))
    at false e = subst (λ (y : ℕ). y < w) (sym (shifted-minus sign b w i e)) (mod-lt (shift_on w b - i) (omega arith))

plus-inverse : (w a b k i : ℕ) → i < w → a + b ≡ k * w → (b + (a + i) % w) % w ≡ i
plus-inverse w a b k i h e = add-mod-mod b (a + i) w ∙ mod-back w (b + (a + i)) i k h (omega arith)

minus-inverse : (w a i : ℕ) → i < w → w ≤ a → (a - (a - i) % w) % w ≡ i
minus-inverse w a i h l =
    let q = (a - i) / w in
    let x = (a - i) % w in
    let d : q * w + x ≡ a - i = div-add-mod' (a - i) w in
    let m : x < w = mod-lt (a - i) (omega arith) in
    mod-back w (a - x) i q h (omega arith)

-- a shift that nothing falls below 0 with
pub record Small (b : ℕ) : Type 0 where
  pub low : takes b ≤ 32
  pub high : adds b ≤ 32

-- a sign and shift, and those from the other end
pub data Opposite (p q : ℕ × ℕ) : Type 0 where
  both_plus : p.0 ≡ 0 → q.0 ≡ 0 → adds q.1 ≡ takes p.1 → takes q.1 ≡ adds p.1 → Opposite p q
  both_minus : (p.0 ≡ 0 → ⊥) → p.0 ≡ q.0 → p.1 ≡ q.1 → Opposite p q

pub shifted-inverse : (p q : ℕ × ℕ) (w i : ℕ) → Small p.1 → Opposite p q → i < w → shifted q.0 q.1 w (shifted p.0 p.1 w i) ≡ i
shifted-inverse p q w i s (both_plus e f up down) h =
    shifted-plus q.0 q.1 w _ (eq-eqb q.0 0 f)
    ∙ ap (λ (x : ℕ). (shift_on w q.1 + x) % w) (shifted-plus p.0 p.1 w i (eq-eqb p.0 0 e))
    ∙ plus-inverse w (shift_on w p.1) (shift_on w q.1) 128 i h (omega (arith, s.low, s.high))
shifted-inverse p q w i s (both_minus n e f) h =
    sym (ap₂ (λ (a b : ℕ). shifted a b w (shifted p.0 p.1 w i)) e f)
    ∙ shifted-minus p.0 p.1 w _ (ne_eqb p.0 0 n)
    ∙ ap (λ (x : ℕ). (shift_on w p.1 - x) % w) (shifted-minus p.0 p.1 w i (ne_eqb p.0 0 n))
    ∙ minus-inverse w (shift_on w p.1) i h (omega (arith, s.low))

-- ---- the remainder that the paper names

-- x and the negative part are congruent to the positive part plus i; with minus, x, i and the negative part to the positive part
pub shifted_sum : (sign b w i : ℕ) → takes b ≤ 32 → i < w
    → (sign ≡ 0 → (shifted sign b w i + takes b) % w ≡ (adds b + i) % w)
    × (sign ≡ 1 → (shifted sign b w i + i + takes b) % w ≡ adds b % w)
shifted_sum sign b w i low h = (plus, minus)
  where
    -- a remainder and a number that was taken away are congruent to what it was taken from
    back : (x t y k : ℕ) → x + t ≡ y + k * w → (x % w + t) % w ≡ y % w
    back x t y k e = ap (λ (z : ℕ). z % w) (add_comm (x % w) t) ∙ add-mod-mod t x w ∙ ap (λ (z : ℕ). z % w) (add_comm t x) ∙ mod_same w (x + t) y k e

    plus : sign ≡ 0 → (shifted sign b w i + takes b) % w ≡ (adds b + i) % w
    plus e =
        ap (λ (x : ℕ). (x + takes b) % w) (shifted-plus sign b w i (eq-eqb sign 0 e))
        ∙ back (shift_on w b + i) (takes b) (adds b + i) 64 (omega arith)

    minus : sign ≡ 1 → (shifted sign b w i + i + takes b) % w ≡ adds b % w
    minus e =
        let n : sign ≡ 0 → ⊥ = λ z. absurd (omega arith) in
        let q : (shift_on w b - i) % w + i + takes b ≡ (shift_on w b - i) % w + (i + takes b) = omega arith in
        ap (λ (x : ℕ). (x + i + takes b) % w) (shifted-minus sign b w i (ne_eqb sign 0 n))
        ∙ ap (λ (x : ℕ). x % w) q
        ∙ back (shift_on w b - i) (i + takes b) (adds b) 64 (omega arith)

-- ---- mapped: the same with a shift below w

pub mapped-plus : (w minus shift t : ℕ) → minus ≡ 0 → mapped w minus shift t ≡ (shift + t) % w
unfolding mapped
mapped-plus w minus shift t e = rw (eq-eqb minus 0 e, mapped)

pub mapped-minus : (w minus shift t : ℕ) → (minus ≡ 0 → ⊥) → mapped w minus shift t ≡ (shift + (w - t)) % w
unfolding mapped
mapped-minus w minus shift t e = rw (ne_eqb minus 0 e, mapped)

pub mapped-shifted : (sign b w i : ℕ) → takes b ≤ 32 → i < w → mapped w sign (shift_on w b % w) i ≡ shifted sign b w i
mapped-shifted sign b w i d h = at (shift_on w b) refl (ℕ_discrete sign 0)
  where
    at : (x : ℕ) → x ≡ shift_on w b → Dec (sign ≡ 0) → mapped w sign (x % w) i ≡ shifted sign b w i
    at x f (yes e) =
        mapped-plus w sign (x % w) i e
        ∙ ap (λ (y : ℕ). y % w) (add_comm (x % w) i)
        ∙ add-mod-mod i x w
        ∙ ap (λ (y : ℕ). y % w) (add_comm i x ∙ ap (λ (y : ℕ). y + i) f)
        ∙ sym (shifted-plus sign b w i (eq-eqb sign 0 e))
    at x f (no e) =
        mapped-minus w sign (x % w) i e
        ∙ ap (λ (y : ℕ). y % w) (add_comm (x % w) (w - i))
        ∙ add-mod-mod (w - i) x w
        ∙ mod_same w (w - i + x) (x - i) 1 (omega (arith, f, d))
        ∙ ap (λ (y : ℕ). (y - i) % w) f
        ∙ sym (shifted-minus sign b w i (ne_eqb sign 0 e))

-- ---- MapIs

pub map_is-same : {w : ℕ} {a : TrackMap} {f h : ℕ → ℕ} → MapIs w a f → ((t : ℕ) → t < w → f t ≡ h t) → MapIs w a h
map_is-same p e = record { sign = p.sign; low = p.low; same = λ t l. p.same t l ∙ e t l }

-- 0 plus takes every track to itself
pub map_is-self : (w : ℕ) → 1 ≤ w → MapIs w (record { minus = 0; shift = 0 }) (λ t. t)
map_is-self w l = record {
  sign = omega arith;
  low = l;
  same = λ t h. mapped-plus w 0 0 t refl ∙ mod-eq_of_lt {n = 0 + t} (omega arith) ∙ omega arith;
}
