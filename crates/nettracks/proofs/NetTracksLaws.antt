-- Laws of one net's part of a track assignment (specs/NetTracks.antt). Assumes nothing.
-- in_range: a test to its facts. switched_at: of the first entry, and of a later one.
-- unrouted: byte by byte. skipped: where unrouted nets are not looked at, and where every net is. TrackTest: entry by entry; the others are
-- not that of ranges. wire_count: of a net that is skipped, of another, an entry that holds a wire.
use mathlib.Core.Path.{◌≡◌, refl, ap}
use mathlib.Core.Bool.{Bool, true, false, ◌&&◌}
use mathlib.Core.List.{List, [], ◌∷◌}
use Rattle.std.specs.List.{list_all}
use mathlib.Core.Logic.{◌≢◌}
use Prim.Native.Nat.{ℕ, zero, suc, ◌<◌}
use native.Mathlib.Omega.{arith}
use borrow.Author.Tests.{ltb-true}
use lib.Dec.{ltb, eqb}
use lib.ListN.{length, get_or}
use Rattle.bounded.specs.Bounded.{every}
use Rattle.bounded.specs.Lists.{every_in}
use Rattle.bounded.proofs.BoundedLaws.{every-at}
use Rattle.bounded.proofs.ListsLaws.{every_in-every}
use Rattle.grid.specs.Grid.{Wire}
use Rattle.net.specs.Net.{Net, size}
use Rattle.nettracks.specs.declared.TrackTest.{TrackTest}
use Rattle.nettracks.specs.declared.TrackTest.TheVariants.{Range, Switches, Whole}
use Rattle.nettracks.specs.NetTracks.{in_range, connected_at, switched_at, no_track, unrouted, skipped, switched, whole_wires}
use Rattle.nettracks.specs.Facts.{wire_count, tracks_pass_at, tracks_pass}

-- ---- in_range

pub in_range-at : (w : ℕ) (n : Net) (ts : List ℕ) → in_range w n ts ≡ true → (i : ℕ) → i < size n → get_or ts i 0 < w
unfolding in_range
in_range-at w n ts h i l = ltb-true (get_or ts i 0) w (every-at (size n) (λ j. ltb (get_or ts j 0) w) h i l)

-- ---- switched_at

module _ (partner : ℕ → ℕ → ℕ → ℕ) (n : Net) (ts : List ℕ) where
  pub switched_at-first : (i : ℕ) → i ≡ 0 → switched_at partner n ts i ≡ true
  unfolding switched_at
  switched_at-first zero h = refl
  switched_at-first (suc i) h = absurd (omega arith)

  pub switched_at-later : (i : ℕ) → 0 < i
      → switched_at partner n ts i ≡ eqb (get_or ts i 0) (connected_at partner n ts i)
  unfolding switched_at
  switched_at-later zero h = absurd (omega arith)
  switched_at-later (suc i) h = refl

-- ---- unrouted

pub unrouted-all : (ts : List ℕ) → list_all (λ t. eqb t no_track) ts ≡ unrouted ts
unfolding unrouted every_in
unrouted-all [] = refl
unrouted-all (t ∷ ts) = ap (λ (b : Bool). eqb t no_track && b) (unrouted-all ts)

pub unrouted-bytes : (ts : List ℕ) → unrouted ts ≡ every (length ts) (λ i. eqb (get_or ts i 0) no_track)
unfolding unrouted
unrouted-bytes ts = every_in-every (λ t. eqb t no_track) ts

-- ---- skipped

module _ (ts : List ℕ) where
  pub skipped-partial : skipped true ts ≡ unrouted ts
  unfolding skipped
  skipped-partial = refl

  pub skipped-whole : skipped false ts ≡ false
  unfolding skipped
  skipped-whole = refl

-- ---- TrackTest

-- a test of all entries is its test of each
pub tracks_pass-every : (test : TrackTest) (step : ℕ → ℕ → ℕ → ℕ) (dead : Wire → Bool) (w : ℕ) (n : Net) (ts : List ℕ)
    → tracks_pass test step dead w n ts ≡ every (size n) (tracks_pass_at test step dead w n ts)
unfolding tracks_pass in_range switched whole_wires tracks_pass_at
tracks_pass-every Range step dead w n ts = refl
tracks_pass-every Switches step dead w n ts = refl
tracks_pass-every Whole step dead w n ts = refl

-- the test of ranges may be given without what the others want, and the others are not that of ranges
pub range-alone : {A : Type 0} → Range ≢ Range → A
range-alone n = absurd (n refl)

pub whole-range : {test : TrackTest} → test ≡ Whole → test ≢ Range
whole-range e r = let z : ◌≡◌ {A = ℕ} 0 1 = cc in omega arith

-- ---- wire_count

module _ (partial : Bool) (n : Net) (ts : List ℕ) where
  pub wire_count-skipped : skipped partial ts ≡ true → wire_count partial n ts ≡ 0
  unfolding wire_count
  wire_count-skipped e = rw (e, wire_count)

  pub wire_count-size : skipped partial ts ≡ false → wire_count partial n ts ≡ size n
  unfolding wire_count
  wire_count-size e = rw (e, wire_count)

  -- an entry that holds a wire
  pub wire_count-entry : (i : ℕ) → i < wire_count partial n ts → (skipped partial ts ≡ false) × (i < size n)
  wire_count-entry i h = at (skipped partial ts) refl
    where
      at : (x : Bool) → skipped partial ts ≡ x → (skipped partial ts ≡ false) × (i < size n)
      at true e = absurd (omega (arith, wire_count-skipped e))
      at false e = (e, omega (arith, wire_count-size e))
