-- Laws of track maps (crates/switchbox, specs/Facts.antt): two track maps in a row. Assumes nothing.
-- mapped: a track map after plus or minus a shift is one track map; it stays below the width.
-- MapIs: of equal track maps, of two track maps in a row.
use mathlib.Core.Path.{◌≡◌, sym, subst, ap, ap₂, ◌∙◌}
use Prim.Native.Nat.{ℕ, ◌+◌, ◌-◌, ◌*◌, ◌/◌, ◌%◌, ◌≤◌, ◌<◌}
use native.Mathlib.Omega.{arith}
use native.Mathlib.Decide.{ℕ_discrete}
use native.Mathlib.Nat.{mod-add-mod, add-mod-mod, div-add-mod', add-mul-mod_self_right, mod-lt}
use Rattle.switchbox.specs.declared.TrackMap.{TrackMap}
use Rattle.switchbox.proofs.ShiftLaws.{mapped-plus, mapped-minus}
use Rattle.switchbox.specs.Facts.{mapped, MapIs}

-- ---- mapped

-- u is the track or, for minus, w less the track
plus-after : (w a b u : ℕ) → ((a + b) % w + u) % w ≡ (a + (b + u) % w) % w
plus-after w a b u = mod-add-mod (a + b) w u ∙ ap (λ (x : ℕ). x % w) (omega arith) ∙ sym (add-mod-mod a (b + u) w)

minus-after : (w a b u : ℕ) → b < w → u ≤ w → ((a + (w - b)) % w + (w - u)) % w ≡ (a + (w - (b + u) % w)) % w
minus-after w a b u h l =
    let x = (b + u) % w in
    let q = (b + u) / w in
    let d : q * w + x ≡ b + u = div-add-mod' (b + u) w in
    let m : x < w = mod-lt (b + u) (omega arith) in
    mod-add-mod (a + (w - b)) w (w - u)
    ∙ sym (add-mul-mod_self_right (a + (w - b) + (w - u)) q w)
    ∙ ap (λ (y : ℕ). y % w) (omega arith)
    ∙ add-mul-mod_self_right (a + (w - x)) 1 w

-- the sign bm and shift b, and then the sign am and shift a
module _ (w am a bm b t : ℕ) where
  pub mapped-after-plus : am ≡ 0 → mapped w bm ((a + b) % w) t ≡ mapped w am a (mapped w bm b t)
  mapped-after-plus e = at (ℕ_discrete bm 0) ∙ sym (mapped-plus w am a (mapped w bm b t) e)
    where
      at : Dec (bm ≡ 0) → mapped w bm ((a + b) % w) t ≡ (a + mapped w bm b t) % w
      at (yes z) =
          mapped-plus w bm ((a + b) % w) t z
          ∙ plus-after w a b t
          ∙ ap (λ (x : ℕ). (a + x) % w) (sym (mapped-plus w bm b t z))
      at (no z) =
          mapped-minus w bm ((a + b) % w) t z
          ∙ plus-after w a b (w - t)
          ∙ ap (λ (x : ℕ). (a + x) % w) (sym (mapped-minus w bm b t z))

  pub mapped-after-minus :
      (am ≡ 0 → ⊥) → bm ≤ 1 → b < w → t < w → mapped w (1 - bm) ((a + (w - b)) % w) t ≡ mapped w am a (mapped w bm b t)
  mapped-after-minus e s h l = at (ℕ_discrete bm 0) ∙ sym (mapped-minus w am a (mapped w bm b t) e)
    where
      at : Dec (bm ≡ 0) → mapped w (1 - bm) ((a + (w - b)) % w) t ≡ (a + (w - mapped w bm b t)) % w
      at (yes z) =
          mapped-minus w (1 - bm) ((a + (w - b)) % w) t (λ y. omega arith)
          ∙ minus-after w a b t h (omega arith)
          ∙ ap (λ (x : ℕ). (a + (w - x)) % w) (sym (mapped-plus w bm b t z))
      at (no z) =
          mapped-plus w (1 - bm) ((a + (w - b)) % w) t (omega arith)
          ∙ ap (λ (x : ℕ). ((a + (w - b)) % w + x) % w) (omega arith)
          ∙ minus-after w a b (w - t) h (omega arith)
          ∙ ap (λ (x : ℕ). (a + (w - x)) % w) (sym (mapped-minus w bm b t z))

mapped-lt : (w minus shift t : ℕ) → 0 < w → mapped w minus shift t < w
mapped-lt w minus shift t h = at (ℕ_discrete minus 0)
  where
    at : Dec (minus ≡ 0) → mapped w minus shift t < w
    at (yes e) = subst (λ (x : ℕ). x < w) (sym (mapped-plus w minus shift t e)) (mod-lt _ h)
    at (no e) = subst (λ (x : ℕ). x < w) (sym (mapped-minus w minus shift t e)) (mod-lt _ h)

-- ---- MapIs

-- another track map with its sign and shift
pub map_is-like : {w : ℕ} {a b : TrackMap} {f : ℕ → ℕ} → MapIs w a f → b.minus ≡ a.minus → b.shift ≡ a.shift → MapIs w b f
map_is-like {w} p e h = record {
  sign = omega (arith, p.sign);
  low = omega (arith, p.low);
  same = λ t l. ap₂ (λ (x y : ℕ). mapped w x y t) e h ∙ p.same t l;
}

map_is-lt : {w : ℕ} {a : TrackMap} {f : ℕ → ℕ} → MapIs w a f → (t : ℕ) → t < w → f t < w
map_is-lt {w} {a} p t l = subst (λ (x : ℕ). x < w) (p.same t l) (mapped-lt w a.minus a.shift t (omega arith))

-- the track map b and then the track map a
abbrev pub after : ℕ → TrackMap → TrackMap → ℕ → ℕ
after w a b t = mapped w a.minus a.shift (mapped w b.minus b.shift t)

pub map_is-after :
    {w : ℕ} {a b r : TrackMap} {f h : ℕ → ℕ} → MapIs w a f → MapIs w b h → MapIs w r (after w a b) → MapIs w r (λ t. f (h t))
map_is-after {w} {a} {b} {r} {f} {h} p q e = record {
  sign = e.sign;
  low = e.low;
  same = λ t l. e.same t l ∙ ap (mapped w a.minus a.shift) (q.same t l) ∙ p.same (h t) (map_is-lt q t l);
}
