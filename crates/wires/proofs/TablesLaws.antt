-- Laws of the prepared tables (specs/Wires.antt). Assumes nothing.
-- mapped_by: as the code makes it, below the width. MapTableTo: place by place; the place of a track map and a track. chan_of, track_of: entry e
-- of the tables is one of the net's, and its wire; this is what the loops over a net's entries share.
use mathlib.Core.Path.{◌≡◌, refl, sym, subst, ap, ap₂, ◌∙◌}
use mathlib.Core.List.{List}
use Prim.Native.Nat.{ℕ, ◌+◌, ◌-◌, ◌*◌, ◌/◌, ◌%◌, ◌≤◌, ◌<◌}
use native.Mathlib.Omega.{arith}
use native.Mathlib.Decide.{dec_lt, ℕ_discrete}
use native.Mathlib.Nat.{mod-lt, mod-eq_of_lt, mod-eq-sub-mod}
use lib.ListN.{length, get_or, set}
use lib.Seq.{get_or-set_same, get_or-set_other}
use Rattle.switchbox.proofs.ShiftLaws.{mapped-plus, mapped-minus}
use Rattle.wires.specs.Wires.{Tables, mapped_by, MapFits, MapTableTo, MapTable, first, size_of, chan_of, track_of, NetFits, Triable}

-- ---- mapped_by

module _ (w code t : ℕ) where
  pub mapped_by-plus : code < 32 → mapped_by w code t ≡ (code + t) % w
  unfolding mapped_by
  mapped_by-plus h =
      let e : code % 32 ≡ code = omega arith in
      mapped-plus w (code / 32) (code % 32) t (omega arith) ∙ ap (λ (s : ℕ). (s + t) % w) e

  pub mapped_by-minus : 32 ≤ code → code < 64 → mapped_by w code t ≡ (code - 32 + (w - t)) % w
  unfolding mapped_by
  mapped_by-minus h l =
      let e : code % 32 ≡ code - 32 = omega arith in
      mapped-minus w (code / 32) (code % 32) t (λ z. omega arith) ∙ ap (λ (s : ℕ). (s + (w - t)) % w) e

  pub mapped_by-lt : code < 64 → t < w → mapped_by w code t < w
  mapped_by-lt h l = at (dec_lt code 32)
    where
      at : Dec (code < 32) → mapped_by w code t < w
      at (yes y) = omega (arith, mapped_by-plus y, mod-lt (code + t) {m = w} (omega arith))
      at (no y) = omega (arith, mapped_by-minus (omega arith) h, mod-lt (code - 32 + (w - t)) {m = w} (omega arith))

-- a sum that goes round at most once
pub mod-once : (w x : ℕ) → w ≤ x → x < w + w → x % w ≡ x - w
mod-once w x h l = mod-eq-sub-mod h ∙ mod-eq_of_lt (omega arith)

-- ---- MapTableTo

module _ {w : ℕ} {l : List ℕ} where
  pub map_table-none : MapTableTo w 0 l
  map_table-none = record { at = λ i h. absurd (omega arith) }

  module _ {n : ℕ} (p : MapTableTo w n l) where
    -- one place more: m has the places before it, and its track if it is a track map's
    map_table-next : (m : List ℕ) → ((i : ℕ) → (i ≡ n → ⊥) → get_or m i 0 ≡ get_or l i 0)
        → (n % 32 < w → get_or m n 0 ≡ mapped_by w (n % 64) (n / 64)) → MapTableTo w (n + 1) m
    map_table-next m kept here = record { at = λ i j s. at i j s (ℕ_discrete i n) }
      where
        at : (i : ℕ) → i < n + 1 → i % 32 < w → Dec (i ≡ n) → get_or m i 0 ≡ mapped_by w (i % 64) (i / 64)
        at i j s (yes e) =
            subst (λ (x : ℕ). x % 32 < w → get_or m x 0 ≡ mapped_by w (x % 64) (x / 64)) (sym e) here s
        at i j s (no e) = kept i e ∙ p.at i (omega arith) s

    -- place n has its track
    pub map_table-more : n < length l → MapTableTo w (n + 1) (set l n (mapped_by w (n % 64) (n / 64)))
    map_table-more h =
        let track = mapped_by w (n % 64) (n / 64) in
        map_table-next (set l n track) (λ i e. get_or-set_other l n i track 0 e) (λ s. get_or-set_same l n track 0 h)

    -- place n is no track map's
    pub map_table-skip : w ≤ n % 32 → MapTableTo w (n + 1) l
    map_table-skip h = map_table-next l (λ i e. refl) (λ s. absurd (omega arith))

-- the place of a track map and a track
pub map_table-at : (w : ℕ) (l : List ℕ) (code t : ℕ) → MapTable w l → MapFits w code t → get_or l (64 * t + code) 0 ≡ mapped_by w code t
map_table-at w l code t p f =
    let h = f.known in
    let s = f.shift in
    let b = f.track in
    let i : (64 * t + code) % 64 ≡ code = omega arith in
    let j : (64 * t + code) / 64 ≡ t = omega arith in
    p.at (64 * t + code) (omega arith) (omega arith) ∙ ap₂ (mapped_by w) i j

-- ---- chan_of, track_of

-- entry e of the tables is entry e - first of net k, and can be used with the home track t
pub record EntryFits (p : Tables) (k t e : ℕ) : Type 0 where
  pub chan : get_or p.chan e 0 ≡ chan_of p k (e - first p k)
  pub track : mapped_by p.width (get_or p.maps e 0) t ≡ track_of p k (e - first p k) t
  pub chan-lt : get_or p.chan e 0 < 480
  pub map : MapFits p.width (get_or p.maps e 0) t

pub entry-fits : {p : Tables} {k t : ℕ} → Triable p k t → p.width ≤ 32
    → (e : ℕ) → first p k ≤ e → e < first p (k + 1) → EntryFits p k t e
unfolding track_of
entry-fits {p} {k} {t} f narrow e l h =
    let i : first p k + (e - first p k) ≡ e = omega arith in
    let b = rw i at (f.net.maps (e - first p k) (omega arith)) in
    record {
      chan = ap (λ (x : ℕ). get_or p.chan x 0) (sym i);
      track = ap (λ (x : ℕ). mapped_by p.width (get_or p.maps x 0) t) (sym i);
      chan-lt = rw i at (f.net.channels (e - first p k) (omega arith));
      map = record { known = b.0; shift = b.1; width = narrow; track = f.track };
    }

-- what is said of its channel and of the track x that was looked up is said of the wire of the net's entry
pub entry-wire : {A : Type 0} {p : Tables} {k t e : ℕ} (f : ℕ → ℕ → A) → EntryFits p k t e
    → (x : ℕ) → x ≡ mapped_by p.width (get_or p.maps e 0) t
    → f (get_or p.chan e 0) x ≡ f (chan_of p k (e - first p k)) (track_of p k (e - first p k) t)
entry-wire f E x q = ap₂ f E.chan (q ∙ E.track)

-- the wires of a net's entries are wires
pub track_of-lt : (p : Tables) (k i t : ℕ) → NetFits p k → i < size_of p k → t < p.width → track_of p k i t < p.width
unfolding track_of
track_of-lt p k i t f h l = mapped_by-lt p.width (get_or p.maps (first p k + i) 0) t (f.maps i h).0 l
