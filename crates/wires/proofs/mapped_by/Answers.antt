-- `wires::mapped_by` meets its contract: the sum is below twice the width, so that it goes round at most once. Assumes nothing.
use mathlib.Core.Path.{◌≡◌, sym, ap, ◌∙◌}
use Prim.Native.Nat.{ℕ, ◌+◌, ◌-◌, ◌%◌, ◌≤◌, ◌<◌}
use native.Mathlib.Omega.{arith}
use native.Mathlib.Nat.{mod-eq_of_lt}
use Rattle.wires.specs.Wires.{mapped_by, MapFits}
use Rattle.wires.proofs.TablesLaws.{mapped_by-plus, mapped_by-minus, mod-once}
use Rattle.wires.proofs.mapped_by.Goals as goal

-- the sum x before it goes round: what the code makes of either kind of track map
sum-plus : {w code t x : ℕ} → MapFits w code t → code < 32 → x ≡ code + t → (mapped_by w code t ≡ x % w) × (x < w + w)
sum-plus {w} {code} {t} f h e = (mapped_by-plus w code t h ∙ ap (λ (y : ℕ). y % w) (sym e), omega (arith, f.shift, f.track))

sum-minus : {w code t x : ℕ} → MapFits w code t → 32 ≤ code → x ≡ code - 32 + (w - t) → (mapped_by w code t ≡ x % w) × (x < w + w)
sum-minus {w} {code} {t} f h e = (mapped_by-minus w code t h f.known ∙ ap (λ (y : ℕ). y % w) (sym e), omega (arith, f.shift, f.known))

once : {w m x : ℕ} → (m ≡ x % w) × (x < w + w) → x < w → (x ≡ m) × (x < w)
once s h = (sym (mod-eq_of_lt h) ∙ sym s.0, h)

round : {w m x : ℕ} → (m ≡ x % w) × (x < w + w) → w ≤ x → (x - w ≡ m) × (x - w < w)
round s h = (sym (mod-once _ _ h s.1) ∙ sym s.0, omega (arith, s.1))

-- what the code gives, for either kind of track map, before and after the sum goes round
low-plus : (w code t x : ℕ) → MapFits w code t → code < 32 → x ≡ code + t → x < w → (x ≡ mapped_by w code t) × (x < w)
low-plus w code t x f h e l = once (sum-plus f h e) l

low-minus : (w code t x : ℕ) → MapFits w code t → 32 ≤ code → x ≡ code - 32 + (w - t) → x < w → (x ≡ mapped_by w code t) × (x < w)
low-minus w code t x f h e l = once (sum-minus f h e) l

high-plus : (w code t x : ℕ) → MapFits w code t → code < 32 → x ≡ code + t → w ≤ x → (x - w ≡ mapped_by w code t) × (x - w < w)
high-plus w code t x f h e l = round (sum-plus f h e) l

high-minus : (w code t x : ℕ) → MapFits w code t → 32 ≤ code → x ≡ code - 32 + (w - t) → w ≤ x → (x - w ≡ mapped_by w code t) × (x - w < w)
high-minus w code t x f h e l = round (sum-minus f h e) l

pub returns-then-x-w : goal.returns-then-x-w
returns-then-x-w c = grind (arith, low-plus, low-minus)

pub returns-else-x-w : goal.returns-else-x-w
returns-else-x-w c = grind (arith, high-plus, high-minus)
