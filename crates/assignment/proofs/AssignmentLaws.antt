-- Laws of track assignments (specs/Assignment.antt). Assumes nothing.
-- net_in: of a sheet's nets. first_byte: none, one net more, all nets, each net's bytes lie within. tracks_of: its bytes and its length.
-- Unrouted: of each of a net's bytes.
-- every_net, wrong_size, track_out_of_range: a test to its facts. bad_tracks: the conditions of 11, 12 and 21.
-- assignment_number: 0 where no condition holds, and back.
-- WellFormed: every net's parents are right, its channels below 480. Pass: what a pass of a loop over the nets has, and when it has it.
use mathlib.Core.Path.{◌≡◌, refl, sym, ap, ap₂, ◌∙◌}
use mathlib.Core.Bool.{Bool, true, false, not, ◌||◌, true≢false}
use mathlib.Core.List.{List}
use mathlib.Core.Logic.{◌↔◌}
use Prim.Native.Nat.{ℕ, ◌+◌, ◌-◌, ◌≤◌, ◌<◌}
use native.Mathlib.Omega.{arith}
use borrow.Author.Tests.{ltb-true, eqb-true, eq-eqb, ne_eqb, not-true, not-false}
use lib.Dec.{ltb}
use lib.ListN.{length, get_or, take, drop, take-append-drop, length-drop}
use lib.Seq.{length-take-le, get_or-take, get_or-drop}
use Rattle.bounded.proofs.BoundedLaws.{every-at, at_every, left-true, right-true}
use Rattle.grid.specs.Grid.{channel_count}
use Rattle.grid.proofs.GridLaws.{channel_count-le}
use Rattle.net.specs.Net.{Net, net_of, size, channel, channels_known, parents_right}
use Rattle.net.specs.declared.Test.TheVariants.{Channels, Edges}
use Rattle.net.specs.Facts.{WholeRecord, passes}
use Rattle.netlist.specs.declared.Trailer.{Trailer}
use Rattle.netlist.specs.Netlist.{trailer_of, grid_of, number_size_of, net_count, record_bytes, net_at, nets, WellFormed}
use Rattle.netlist.proofs.NetlistLaws.{readable-below, trailer-size, readable-allowed, record-whole, nets-length, well_formed-readable, well_formed-passes, net_in-nets}
use Rattle.numbers.proofs.NumbersLaws.{Clear, condition_of, first_number-none, first_number-clear}
use Rattle.net.specs.Nets.{entry_count, no_net, net_in}
use Rattle.net.proofs.NetsLaws.{entry_count-append, entry_count-more, entry_count-all}
use Rattle.nettracks.specs.declared.TrackTest.TheVariants.{Range, Switches, Whole}
use Rattle.nettracks.specs.NetTracks.{in_range, no_track, skipped}
use Rattle.nettracks.specs.Facts.{tracks_pass}
use Rattle.nettracks.proofs.NetTracksLaws.{unrouted-bytes}
use Rattle.assignment.specs.Board.{Board}
use Rattle.assignment.specs.Assignment.{first_byte, tracks_of, track_at, Unrouted, every_net, wrong_size, track_out_of_range, not_switched, broken_wire, ticket_conditions}
use Rattle.assignment.specs.Facts.{bad_tracks, assignment_number}

-- ---- first_byte

pub first_byte-none : (ns : List Net) → first_byte ns 0 ≡ 0
unfolding first_byte entry_count
first_byte-none ns = refl

pub first_byte-more : (ns : List Net) (k : ℕ) → k < length ns → first_byte ns (k + 1) ≡ first_byte ns k + size (net_in ns k)
unfolding first_byte
first_byte-more ns k h = entry_count-more ns k no_net h

pub first_byte-all : (ns : List Net) → first_byte ns (length ns) ≡ entry_count ns
unfolding first_byte
first_byte-all ns = entry_count-all ns

-- the bytes of net k lie within the assignment
pub first_byte-le : (ns : List Net) (k : ℕ) → k < length ns → first_byte ns k + size (net_in ns k) ≤ entry_count ns
unfolding first_byte
first_byte-le ns k h =
    let e = entry_count-more ns k no_net h in
    let f = ap entry_count (sym (take-append-drop (k + 1) ns)) in
    omega (arith, entry_count-append (take (k + 1) ns) (drop (k + 1) ns))

-- ---- tracks_of

pub tracks_of-length : (ns : List Net) (b : List ℕ) (k : ℕ) → length b ≡ entry_count ns → k < length ns
    → length (tracks_of ns b k) ≡ size (net_in ns k)
unfolding tracks_of
tracks_of-length ns b k e h =
    let l = first_byte-le ns k h in
    length-take-le (size (net_in ns k)) (drop (first_byte ns k) b) (omega (arith, length-drop (first_byte ns k) b))

-- the part that starts at the net's first byte and ends after its last
pub tracks_of-part : (ns : List Net) (b : List ℕ) (k at end : ℕ) → at ≡ first_byte ns k → end ≡ at + size (net_in ns k)
    → take (end - at) (drop at b) ≡ tracks_of ns b k
unfolding tracks_of
tracks_of-part ns b k at end a e =
    let m : end - at ≡ size (net_in ns k) = omega arith in
    ap₂ (λ (n o : ℕ). take n (drop o b)) m a

-- the track of an entry is the byte there
pub track_at-byte : (ns : List Net) (b : List ℕ) (k i : ℕ) → i < size (net_in ns k) → track_at ns b k i ≡ get_or b (first_byte ns k + i) 0
unfolding tracks_of
track_at-byte ns b k i l =
    get_or-take (size (net_in ns k)) (drop (first_byte ns k) b) i 0 l ∙ get_or-drop (first_byte ns k) b i 0

-- ---- Unrouted

-- "255 in all of a net's bytes"
pub unrouted-tracks : (ns : List Net) (b : List ℕ) (k : ℕ) → length b ≡ entry_count ns → k < length ns
    → Unrouted ns b k ↔ ((i : ℕ) → i < size (net_in ns k) → track_at ns b k i ≡ no_track)
unrouted-tracks ns b k e h =
    let l = tracks_of-length ns b k e h in (
      (λ u i m. eqb-true _ _ (every-at (length (tracks_of ns b k)) _ (sym (unrouted-bytes (tracks_of ns b k)) ∙ u) i (omega arith))),
      (λ u. unrouted-bytes (tracks_of ns b k) ∙ at_every (length (tracks_of ns b k)) _ (λ i m. eq-eqb _ _ (u i (omega arith)))),
    )

-- ---- every_net

-- net k is not looked at, or passes
abbrev pub net_passes : Bool → (Net → List ℕ → Bool) → List Net → List ℕ → ℕ → Bool
net_passes partial test ns b k = skipped partial (tracks_of ns b k) || test (net_in ns k) (tracks_of ns b k)

module _ (partial : Bool) (test : Net → List ℕ → Bool) (ns : List Net) (b : List ℕ) where
  -- a net that is looked at passes
  pub every_net-at : every_net partial test ns b ≡ true → (k : ℕ) → k < length ns
      → skipped partial (tracks_of ns b k) ≡ false → test (net_in ns k) (tracks_of ns b k) ≡ true
  unfolding every_net
  every_net-at e k h n = at _ _ n (every-at (length ns) (net_passes partial test ns b) e k h)
    where
      at : (x y : Bool) → x ≡ false → (x || y) ≡ true → y ≡ true
      at true y p q = absurd (true≢false p)
      at false y p q = q

  pub at-every_net : ((k : ℕ) → k < length ns → skipped partial (tracks_of ns b k) ≡ false → test (net_in ns k) (tracks_of ns b k) ≡ true)
      → every_net partial test ns b ≡ true
  unfolding every_net
  at-every_net h = at_every (length ns) (net_passes partial test ns b) (λ k l. at _ (test (net_in ns k) (tracks_of ns b k)) (h k l))
    where
      at : (x y : Bool) → (x ≡ false → y ≡ true) → (x || y) ≡ true
      at true y f = refl
      at false y f = f refl

-- ---- wrong_size

pub wrong_size-true : (ns : List Net) (b : List ℕ) → (length b ≡ entry_count ns → ⊥) → wrong_size ns b ≡ true
unfolding wrong_size
wrong_size-true ns b h = ap not (ne_eqb (length b) (entry_count ns) h)

pub wrong_size-false : (ns : List Net) (b : List ℕ) → length b ≡ entry_count ns → wrong_size ns b ≡ false
unfolding wrong_size
wrong_size-false ns b e = ap not (eq-eqb (length b) (entry_count ns) e)

-- ---- track_out_of_range

-- a net that is looked at is in range, where 11 does not apply
pub track_out_of_range-at : (partial : Bool) (w : ℕ) (ns : List Net) (b : List ℕ) → track_out_of_range partial w ns b ≡ false
    → (k : ℕ) → k < length ns → skipped partial (tracks_of ns b k) ≡ false → in_range w (net_in ns k) (tracks_of ns b k) ≡ true
unfolding track_out_of_range
track_out_of_range-at partial w ns b e = every_net-at partial (in_range w) ns b (not-false _ e)

-- ---- bad_tracks

module _ (partial : Bool) (board : Board) (w : ℕ) (ns : List Net) (b : List ℕ) where
  pub bad_tracks-range : bad_tracks Range partial board w ns b ≡ track_out_of_range partial w ns b
  unfolding bad_tracks tracks_pass track_out_of_range
  bad_tracks-range = refl

  pub bad_tracks-switches : bad_tracks Switches partial board w ns b ≡ not_switched partial (board.partner w) ns b
  unfolding bad_tracks tracks_pass not_switched
  bad_tracks-switches = refl

  pub bad_tracks-whole : bad_tracks Whole partial board w ns b ≡ broken_wire partial board.broken ns b
  unfolding bad_tracks tracks_pass broken_wire
  bad_tracks-whole = refl

-- ---- assignment_number

module _ (partial : Bool) (board : Board) (w : ℕ) (ns : List Net) (b : List ℕ) where
  abbrev table : List (ℕ × Bool)
  table = ticket_conditions partial board w ns b

  pub number-none : Clear table 5 → assignment_number partial board w ns b ≡ 0
  unfolding assignment_number
  number-none c = first_number-none table c

  -- the condition of each number
  pub number-clear : assignment_number partial board w ns b ≡ 0 → (x : ℕ) → condition_of x table ≡ false
  unfolding assignment_number
  number-clear e = first_number-clear table refl e

-- ---- WellFormed

module _ (s : List ℕ) (w : WellFormed s) where
  pub net-parents : (k : ℕ) → k < net_count s → parents_right (grid_of s) (net_at s k) ≡ true
  unfolding passes
  net-parents k h = well_formed-passes s w Edges k h

  pub net-channel-lt : (k i : ℕ) → k < net_count s → i < size (net_at s k) → channel (net_at s k) i < 480
  unfolding passes channels_known
  net-channel-lt k i h l =
      let c = every-at (size (net_at s k)) (λ j. ltb (channel (net_at s k) j) (channel_count (grid_of s))) (well_formed-passes s w Channels k h) i l in
      omega (arith, ltb-true _ (channel_count (grid_of s)) c, channel_count-le (readable-allowed (well_formed-readable s w)).sized)

-- ---- Pass

-- a pass of a loop over the nets: net k of the accepted sheet s has the record r, with a net number of z bytes, and its bytes in the assignment b
-- start at `at`
pub record Pass (s b : List ℕ) (k at z : ℕ) (r : List ℕ) : Type 0 where
  pub accepted : WellFormed s
  pub sized : length b ≡ entry_count (nets s)
  pub below : k < net_count s
  pub start : at ≡ first_byte (nets s) k
  pub size : z ≡ number_size_of s
  pub bytes : r ≡ record_bytes s k

-- of the net k below the trailer's number of nets
pub pass-of : {s b : List ℕ} {trailer : Trailer} {k at z : ℕ} {r : List ℕ} → WellFormed s → trailer ≡ trailer_of s → length b ≡ entry_count (nets s)
    → k < trailer.nets → at ≡ first_byte (nets s) k → (r ≡ record_bytes s k) × (z ≡ trailer.numbersize) → Pass s b k at z r
pass-of {s = s} {trailer = trailer} {k = k} accepted own whole h e r = record {
  accepted = accepted;
  sized = whole;
  below = (readable-below (well_formed-readable s accepted) trailer own k h).0;
  start = e;
  size = r.1 ∙ (trailer-size s trailer own).0;
  bytes = r.0;
}

module _ {s b : List ℕ} {k at z : ℕ} {r : List ℕ} (u : Pass s b k at z r) where
  pub pass-counted : k < length (nets s)
  pass-counted = omega (arith, nets-length s, u.below)

  pub pass-whole : WholeRecord z r
  pass-whole = rw (u.size, u.bytes) (record-whole (well_formed-readable s u.accepted) k u.below)

  pub pass-net : net_of z r ≡ net_in (nets s) k
  pass-net = ap₂ net_of u.size u.bytes ∙ sym (net_in-nets s k u.below)

  pub pass-parents : parents_right (grid_of s) (net_of z r) ≡ true
  pass-parents = rw (u.size, u.bytes) (net-parents s u.accepted k u.below)

  pub pass-channel-lt : (i : ℕ) → i < size (net_of z r) → channel (net_of z r) i < 480
  pass-channel-lt = rw (u.size, u.bytes) (λ i l. net-channel-lt s u.accepted k i u.below l)

  -- its bytes, as many as n, are the part of the assignment from `at` to `at + n`
  module _ (n : ℕ) (e : n ≡ size (net_of z r)) where
    pub pass-end-le : at + n ≤ length b
    pass-end-le = omega (arith, first_byte-le (nets s) k pass-counted, ap size pass-net, u.start, u.sized)

    -- the next net's bytes start where they end
    pub pass-next : at + n ≡ first_byte (nets s) (k + 1)
    pass-next = omega (arith, first_byte-more (nets s) k pass-counted, ap size pass-net, u.start)

    pub pass-tracks : take (at + n - at) (drop at b) ≡ tracks_of (nets s) b k
    pass-tracks = tracks_of-part (nets s) b k at (at + n) u.start (omega (arith, ap size pass-net))

    pub pass-filled : length (take (at + n - at) (drop at b)) ≡ size (net_of z r)
    pass-filled = ap length pass-tracks ∙ tracks_of-length (nets s) b k u.sized pass-counted ∙ sym (ap size pass-net)

    -- what a test of the record's net and that part answers is what it answers of net k and its tracks
    pub pass-test : (test : Net → List ℕ → Bool) {x : Bool} → x ≡ test (net_of z r) (take (at + n - at) (drop at b))
        → test (net_in (nets s) k) (tracks_of (nets s) b k) ≡ x
    pass-test test p = sym (p ∙ ap₂ test pass-net pass-tracks)

    module _ (partial : Bool) {x : Bool} (p : x ≡ skipped partial (take (at + n - at) (drop at b))) where
      skips : skipped partial (tracks_of (nets s) b k) ≡ x
      skips = sym (p ∙ ap (skipped partial) pass-tracks)

      -- a net that is not looked at passes
      pub pass-skips : (test : Net → List ℕ → Bool) → not x ≡ false → net_passes partial test (nets s) b k ≡ true
      pass-skips test h = left-true _ (test (net_in (nets s) k) (tracks_of (nets s) b k)) (skips ∙ not-false x h)

      -- one that is looked at fails where its test does
      pub pass-fails : (test : Net → List ℕ → Bool) {y : Bool} → y ≡ test (net_of z r) (take (at + n - at) (drop at b))
          → not x ≡ true → not y ≡ true → net_passes partial test (nets s) b k ≡ false
      pass-fails test {y} q f g = ap₂ ◌||◌ (skips ∙ not-true x f) (pass-test test q ∙ not-true y g)

      -- and is in range, where 11 does not apply
      pub pass-in-range : (w : ℕ) → track_out_of_range partial w (nets s) b ≡ false → not x ≡ true
          → in_range w (net_of z r) (take (at + n - at) (drop at b)) ≡ true
      pass-in-range w o h =
          sym (pass-test (in_range w) refl)
          ∙ track_out_of_range-at partial w (nets s) b o k pass-counted (skips ∙ not-true x h)

    -- a net passes where its test does
    pub pass-passes : (partial : Bool) (test : Net → List ℕ → Bool) {y : Bool} → y ≡ test (net_of z r) (take (at + n - at) (drop at b))
        → not y ≡ false → net_passes partial test (nets s) b k ≡ true
    pass-passes partial test {y} q h =
        right-true (skipped partial (tracks_of (nets s) b k)) _ (pass-test test q ∙ not-false y h)
