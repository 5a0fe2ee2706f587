-- Laws of an output whose first bytes are written (specs/Outcomes.antt, `overwrite`). Assumes nothing.
-- overwrite-first, -later, -length: the bytes written, those behind them, the length. overwrite-none, -all: nothing is written, or all of it.
-- overwrite-set: one byte more; mapped-more, mapped-all: a part that is filled byte by byte with the images of a list. overwrite-part: the
-- part behind the bytes written is written too; PartsWritten: an output that is written part after part.
use mathlib.Core.Path.{◌≡◌, refl, sym, ap, ap₂, ◌∙◌}
use Prim.Native.Nat.{ℕ, suc, ◌+◌, ◌-◌, ◌≤◌, ◌<◌}
use native.Mathlib.Omega.{arith}
use native.Mathlib.Numerals.{add-one}
use mathlib.Core.List.{List, [], ◌∷◌, ◌++◌, map, map-append, append_assoc, append-nil}
use lib.ListN.{length, get_or, take, drop, set, length-append, length-map, length-drop, drop_of_length-le}
use lib.Seq.{take_at, drop_at, take_all, take-suc, length-take-le, drop-drop, drop-cons, set-append_seam, take-append_seam, drop-append_seam}
use Rattle.routing.specs.Outcomes.{overwrite}

pub overwrite-first : (b out : List ℕ) (n : ℕ) → length b ≡ n → take n (overwrite b out) ≡ b
unfolding overwrite
overwrite-first b out n e = take_at b (drop (length b) out) n e

pub overwrite-later : (b out : List ℕ) (n : ℕ) → length b ≡ n → drop n (overwrite b out) ≡ drop n out
unfolding overwrite
overwrite-later b out n e = drop_at b (drop (length b) out) n e ∙ ap (λ (m : ℕ). drop m out) e

pub overwrite-length : (b out : List ℕ) → length b ≤ length out → length (overwrite b out) ≡ length out
unfolding overwrite
overwrite-length b out l = omega (arith, length-append b (drop (length b) out), length-drop (length b) out)

pub overwrite-none : (l : List ℕ) → overwrite [] l ≡ l
unfolding overwrite
overwrite-none l = refl

pub overwrite-all : (b l : List ℕ) → length b ≡ length l → overwrite b l ≡ b
unfolding overwrite
overwrite-all b l e =
    let h : length l ≤ length b = omega arith in
    ap (λ (d : List ℕ). b ++ d) (drop_of_length-le l h) ∙ append-nil b

pub overwrite-set : (b l : List ℕ) (i x : ℕ) → length b ≡ i → i < length l → set (overwrite b l) i x ≡ overwrite (b ++ (x ∷ [])) l
unfolding overwrite
overwrite-set b l i x e h =
    let below : length b < length l = omega arith in
    let k : suc (length b) ≡ length (b ++ (x ∷ [])) = omega (arith, length-append b (x ∷ [])) in
    ap₂ (λ (d : List ℕ) (j : ℕ). set (b ++ d) j x) (drop-cons l (length b) 0 below) (sym e)
    ∙ set-append_seam b (get_or l (length b) 0) (drop (suc (length b)) l) x
    ∙ sym (append_assoc b (x ∷ []) (drop (suc (length b)) l))
    ∙ ap (λ (k : ℕ). (b ++ (x ∷ [])) ++ drop k l) k

pub overwrite-part : (b v l o : List ℕ) (i k : ℕ) → o ≡ overwrite b l → length b ≡ i → length v ≡ k
    → take i o ++ (v ++ drop k (drop i o)) ≡ overwrite (b ++ v) l
unfolding overwrite
overwrite-part b v l o i k e ei ek =
    ap (λ (z : List ℕ). take i z ++ (v ++ drop k (drop i z))) e
    ∙ ap₂ (λ (j m : ℕ). take j (b ++ drop (length b) l) ++ (v ++ drop m (drop j (b ++ drop (length b) l)))) (sym ei) (sym ek)
    ∙ ap₂ (λ (x y : List ℕ). x ++ (v ++ drop (length v) y)) (take-append_seam b (drop (length b) l)) (drop-append_seam b (drop (length b) l))
    ∙ ap (λ (d : List ℕ). b ++ (v ++ d)) (drop-drop (length v) (length b) l)
    ∙ sym (append_assoc b v (drop (length b + length v) l))
    ∙ ap (λ (m : ℕ). (b ++ v) ++ drop m l) (sym (length-append b v))

-- ---- a part that is filled byte by byte

-- the part l with the images of the first bytes of ts
module _ (f : ℕ → ℕ) (ts l : List ℕ) (i : ℕ) (e : length l ≡ length ts) where
  pub mapped-more : i < length ts → set (overwrite (map f (take i ts)) l) i (f (get_or ts i 0)) ≡ overwrite (map f (take (i + 1) ts)) l
  mapped-more h =
      overwrite-set (map f (take i ts)) l i (f (get_or ts i 0)) (length-map (take i ts) f ∙ length-take-le i ts (omega arith)) (omega arith)
      ∙ ap (λ (b : List ℕ). overwrite b l)
      (sym (map-append f (take i ts) (get_or ts i 0 ∷ []))
      ∙ ap (map f) (sym (take-suc ts i 0 h))
      ∙ ap (λ (k : ℕ). map f (take k ts)) (sym (add-one i)))

  pub mapped-all : i ≡ length ts → overwrite (map f (take i ts)) l ≡ map f ts
  mapped-all q =
      ap (λ (xs : List ℕ). overwrite (map f xs) l) (take_all i ts (omega arith)) ∙ overwrite-all (map f ts) l (length-map ts f ∙ sym e)

-- ---- PartsWritten

-- `written j` is what the first j parts have; they are written over `before`, and the next part starts at `at`
pub record PartsWritten (written : ℕ → List ℕ) (before after : List ℕ) (j at : ℕ) : Type 0 where
  pub count : length (written j) ≡ at
  pub bytes : after ≡ overwrite (written j) before
  pub kept : length after ≡ length before

module _ {written : ℕ → List ℕ} {before : List ℕ} where
  pub parts_none : written 0 ≡ [] → PartsWritten written before before 0 0
  parts_none e = record {
    count = ap length e;
    bytes = sym (ap (λ (b : List ℕ). overwrite b before) e ∙ overwrite-none before);
    kept = refl;
  }

  -- the part v is written to the bytes from `at` to `end`
  pub parts_more : {after : List ℕ} {j at : ℕ} (v : List ℕ) (end : ℕ) → PartsWritten written before after j at → written (j + 1) ≡ written j ++ v
      → length v ≡ end - at → at ≤ end → end ≤ length before
      → PartsWritten written before (take at after ++ (v ++ drop (end - at) (drop at after))) (j + 1) end
  parts_more {after} {j} {at} v end W more filled rises room =
      record { count = count; bytes = bytes; kept = ap length bytes ∙ overwrite-length _ before (omega (arith, count)) }
    where
      count : length (written (j + 1)) ≡ end
      count = omega (arith, ap length more, length-append (written j) v, filled, W.count)

      bytes : take at after ++ (v ++ drop (end - at) (drop at after)) ≡ overwrite (written (j + 1)) before
      bytes =
          overwrite-part (written j) v before after at (end - at) W.bytes W.count filled
          ∙ ap (λ (b : List ℕ). overwrite b before) (sym more)
