-- The conditions of a sheet mean what specs/Meanings.antt says of them. Assumes nothing.
-- bad-parameter: 18. sheet-means: the conditions and their meanings.
use mathlib.Core.Path.{◌≡◌, refl, sym, ap, ◌∙◌}
use mathlib.Core.Logic.{◌⊎◌, ◌↔◌, inl, inr}
use Prim.Native.Nat.{ℕ, ◌<◌}
use native.Mathlib.Omega.{arith}
use native.Mathlib.Decide.{dec_lt, ℕ_discrete}
use mathlib.Core.List.{List}
use mathlib.Core.Bool.{Bool, true, false, not, ◌&&◌, true≢false}
use lib.Dec.{leb}
use lib.ListN.{replicate}
use borrow.Author.Tests.{leb-false, lt-leb, not-true}
use Rattle.bounded.proofs.BoundedLaws.{every-fails, every_some}
use Rattle.numbers.proofs.MeaningLaws.{Means}
use Rattle.switchbox.specs.SwitchBox.{rows_kind, rows_length, column_count, sign_of, shift_of, adds, takes, shift_allowed, row_allowed, rows_allowed}
use Rattle.switchbox.proofs.ShiftLaws.{adds-low, adds-high, takes_low, takes-high}
use Rattle.netlist.specs.Netlist.{kind_of, rows_of, bad_rows, sheet_conditions}
use Rattle.netlist.specs.Meanings.{BadShift, BadParameter, sheet_meanings}
use Rattle.netlist.proofs.NetlistLaws.{rows_of-none}

-- ---- 18

both_false : (a b : Bool) → (a && b) ≡ false → (a ≡ false) ⊎ (b ≡ false)
both_false true b e = inr e
both_false false b e = inl refl

false-both : (a b : Bool) → (a ≡ false) ⊎ (b ≡ false) → (a && b) ≡ false
false-both true b (inl e) = absurd (true≢false e)
false-both true b (inr e) = e
false-both false b h = refl

bad-shift : (b : ℕ) → (shift_allowed b ≡ false) ↔ BadShift b
unfolding shift_allowed
bad-shift b = (
  (λ e. there (both_false (leb (takes b) 32) (leb (adds b) 31) e) (dec_lt b 128)),
  (λ h. false-both (leb (takes b) 32) (leb (adds b) 31) (back h (dec_lt b 128))),
)
  where
    there : (leb (takes b) 32 ≡ false) ⊎ (leb (adds b) 31 ≡ false) → Dec (b < 128) → BadShift b
    there (inl e) (yes l) = absurd (omega (arith, leb-false (takes b) 32 e, takes_low b l))
    there (inl e) (no l) = (omega arith, omega (arith, leb-false (takes b) 32 e, takes-high b (omega arith)))
    there (inr e) (yes l) = (omega (arith, leb-false (adds b) 31 e, adds-low b l), omega arith)
    there (inr e) (no l) = absurd (omega (arith, leb-false (adds b) 31 e, adds-high b (omega arith)))

    back : BadShift b → Dec (b < 128) → (leb (takes b) 32 ≡ false) ⊎ (leb (adds b) 31 ≡ false)
    back h (yes l) = inr (lt-leb (adds b) 31 (omega (arith, h.0, adds-low b l)))
    back h (no l) = inl (lt-leb (takes b) 32 (omega (arith, h.1, takes-high b (omega arith))))

bad-row : (rows : List ℕ) (k : ℕ) → (row_allowed rows k ≡ false) ↔ ((1 < sign_of rows k) ⊎ BadShift (shift_of rows k))
unfolding row_allowed
bad-row rows k = (
  (λ e. there (both_false (leb (sign_of rows k) 1) (shift_allowed (shift_of rows k)) e)),
  (λ h. false-both (leb (sign_of rows k) 1) (shift_allowed (shift_of rows k)) (back h)),
)
  where
    there : (leb (sign_of rows k) 1 ≡ false) ⊎ (shift_allowed (shift_of rows k) ≡ false) → (1 < sign_of rows k) ⊎ BadShift (shift_of rows k)
    there (inl e) = inl (leb-false (sign_of rows k) 1 e)
    there (inr e) = inr ((bad-shift (shift_of rows k)).0 e)

    back : (1 < sign_of rows k) ⊎ BadShift (shift_of rows k) → (leb (sign_of rows k) 1 ≡ false) ⊎ (shift_allowed (shift_of rows k) ≡ false)
    back (inl h) = inl (lt-leb (sign_of rows k) 1 h)
    back (inr h) = inr ((bad-shift (shift_of rows k)).1 h)

-- the zeros that stand in for the rows of another kind are in range
none-bad : rows_allowed (replicate rows_length 0) ≡ true
unfolding rows_allowed
none-bad = refl

bad-parameter : (s : List ℕ) → (bad_rows s ≡ true) ↔ BadParameter s
unfolding bad_rows rows_allowed
bad-parameter s = (
  (λ e.
      let r = every_some column_count (row_allowed (rows_of s)) (not-true _ e) in
      record { kind = own (not-true _ e) (ℕ_discrete (kind_of s) rows_kind); pair = r.0; below = r.1; bad = (bad-row (rows_of s) r.0).0 r.2 }),
  (λ h. ap not (every-fails column_count (row_allowed (rows_of s)) h.pair h.below ((bad-row (rows_of s) h.pair).1 h.bad))),
)
  where
    own : rows_allowed (rows_of s) ≡ false → Dec (kind_of s ≡ rows_kind) → kind_of s ≡ rows_kind
    own e (yes k) = k
    own e (no n) = absurd (true≢false (sym none-bad ∙ sym (ap rows_allowed (rows_of-none s n)) ∙ e))

-- ---- the conditions and their meanings

-- a condition that is its own meaning
same : (c : Bool) → (c ≡ true) ↔ (c ≡ true)
same c = ((λ e. e), (λ e. e))

pub sheet-means : (s : List ℕ) (B : Type 0) → Means B (sheet_conditions s) (sheet_meanings s)
sheet-means s B = (
  refl,
  (λ _. same _),
  (
    refl,
    (λ _. same _),
    (
      refl,
      (λ _. same _),
      (
        refl,
        (λ _. same _),
        (
          refl,
          (λ _. same _),
          (
            refl,
            (λ _. bad-parameter s),
            (
              refl,
              (λ _. same _),
              (refl, (λ _. same _), (refl, (λ _. same _), (refl, (λ _. same _), tt))),
            ),
          ),
        ),
      ),
    ),
  ),
)
