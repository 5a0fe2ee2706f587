-- Laws of number 13 (specs/Assignment.antt): what the marks of the nets passed say of it. Assumes nothing.
-- no_wire_shared, no_conflict: of nets with a wire of both, with none. Marked, the marks of the nets passed: of no net, one entry more, one
-- net more, all nets, a wire held twice.
-- Looking: what the loop over the entries of a net has, and the wire that it reads off an entry.
use mathlib.Core.Path.{◌≡◌, refl, sym, ap, ap₂, ◌∙◌}
use mathlib.Core.Bool.{Bool, true, false, not, ◌||◌, true≢false, or-false, or_assoc, or_comm}
use mathlib.Core.List.{List}
use mathlib.Core.Logic.{◌⊎◌, inl, inr}
use Prim.Native.Nat.{ℕ, ◌+◌, ◌-◌, ◌<◌}
use native.Mathlib.Omega.{arith}
use native.Mathlib.Decide.{dec_lt}
use lib.ListN.{length, get_or, take, drop, replicate, length-replicate}
use Rattle.bounded.specs.Bounded.{every, any_below}
use Rattle.bounded.proofs.BoundedLaws.{either_true, left-true, right-true, cannot-pass}
use Rattle.bounded.proofs.BoundedLaws.{at_every, every-none, every_more, every-fails}
use Rattle.bounded.proofs.BoundedLaws.{any_below-none, any_below-more, any_below-true, true-any_below, differ-once}
use Rattle.grid.specs.Grid.{Wire, same_wire}
use Rattle.grid.proofs.WireLaws.{same_wire-true, same_wire-sym}
use Rattle.marks.specs.Marks.{held_at, holding}
use Rattle.marks.proofs.MarksLaws.{held_at-fresh, held_at-holding, holding-length}
use Rattle.net.specs.Net.{Net, net_of, size, channel, channels_differ}
use Rattle.net.specs.declared.Test.TheVariants.{Repeats}
use Rattle.net.specs.Facts.{passes}
use Rattle.net.specs.Nets.{entry_count}
use Rattle.netlist.specs.declared.Trailer.{Trailer}
use Rattle.netlist.specs.Netlist.{trailer_of, width_of, record_bytes, nets, WellFormed}
use Rattle.netlist.proofs.NetlistLaws.{readable-width, well_formed-readable, well_formed-passes, net_in-nets}
use Rattle.nettracks.specs.NetTracks.{wire_at, skipped}
use Rattle.nettracks.specs.Facts.{wire_count}
use Rattle.nettracks.proofs.NetTracksLaws.{in_range-at, wire_count-size, wire_count-entry}
use Rattle.switchbox.specs.SwitchBox.{max_width}
use Rattle.net.specs.Nets.{net_in}
use Rattle.assignment.specs.Assignment.{first_byte, tracks_of, track_at, wire_in, wires_differ, no_wire_shared}
use Rattle.assignment.specs.Assignment.{no_conflict, track_out_of_range, wire_conflict}
use Rattle.assignment.proofs.AssignmentLaws.{track_out_of_range-at}
use Rattle.assignment.proofs.AssignmentLaws.{Pass, pass-of, pass-counted, pass-net, pass-channel-lt, pass-tracks, pass-filled}

-- ---- no_wire_shared

-- entry i of the net n with the tracks ts is the wire v
abbrev pub is_wire : Net → List ℕ → Wire → ℕ → Bool
is_wire n ts v i = same_wire (wire_at n ts i) v

module _ (n : Net) (ts : List ℕ) (m : Net) (us : List ℕ) where
  wires_differ-is_wire : (i j : ℕ) → wires_differ n ts m us i j ≡ not (is_wire m us (wire_at n ts i) j)
  unfolding wires_differ
  wires_differ-is_wire i j = ap not (same_wire-sym (wire_at n ts i) (wire_at m us j))

  no_wire_shared-fails : (i j : ℕ) → i < size n → j < size m → is_wire m us (wire_at n ts i) j ≡ true → no_wire_shared n ts m us ≡ false
  unfolding no_wire_shared
  no_wire_shared-fails i j p q e =
      every-fails (size n) (λ y. every (size m) (wires_differ n ts m us y)) i p
      (every-fails (size m) (wires_differ n ts m us i) j q (wires_differ-is_wire i j ∙ ap not e))

  no_wire_shared-true : ((i j : ℕ) → i < size n → j < size m → is_wire m us (wire_at n ts i) j ≡ false) → no_wire_shared n ts m us ≡ true
  unfolding no_wire_shared
  no_wire_shared-true h =
      at_every (size n) (λ y. every (size m) (wires_differ n ts m us y))
      (λ i p. at_every (size m) (wires_differ n ts m us i) (λ j q. wires_differ-is_wire i j ∙ ap not (h i j p q)))

-- ---- no_conflict

-- net k is not looked at
abbrev skips : Bool → List Net → List ℕ → ℕ → Bool
skips partial ns b k = skipped partial (tracks_of ns b k)

-- how many wires net k holds
abbrev wires_held : Bool → List Net → List ℕ → ℕ → ℕ
wires_held partial ns b k = wire_count partial (net_in ns k) (tracks_of ns b k)

-- net l holds the wire v
abbrev holds_wire : Bool → List Net → List ℕ → Wire → ℕ → Bool
holds_wire partial ns b v l = any_below (wires_held partial ns b l) (is_wire (net_in ns l) (tracks_of ns b l) v)

module _ (partial : Bool) (ns : List Net) (b : List ℕ) (k l : ℕ) where
  -- net l holds the wire of entry i of net k
  abbrev shared : ℕ → Bool
  shared i = holds_wire partial ns b (wire_in ns b k i) l

  pub no_conflict-looked : skips partial ns b k ≡ false → skips partial ns b l ≡ false
      → no_conflict partial ns b k l ≡ no_wire_shared (net_in ns k) (tracks_of ns b k) (net_in ns l) (tracks_of ns b l)
  unfolding no_conflict
  no_conflict-looked e f = ap₂ (λ (x y : Bool). x || y || no_wire_shared (net_in ns k) (tracks_of ns b k) (net_in ns l) (tracks_of ns b l)) e f

  -- a net that is not looked at is in no conflict
  pub no_conflict-where : (skips partial ns b k ≡ false → skips partial ns b l ≡ false
      → no_wire_shared (net_in ns k) (tracks_of ns b k) (net_in ns l) (tracks_of ns b l) ≡ true)
      → no_conflict partial ns b k l ≡ true
  unfolding no_conflict
  no_conflict-where h = at (skips partial ns b k) (skips partial ns b l) refl refl
    where
      at : (x y : Bool) → skips partial ns b k ≡ x → skips partial ns b l ≡ y → no_conflict partial ns b k l ≡ true
      at true y e f = left-true _ _ (left-true _ _ e)
      at false true e f = left-true _ _ (right-true (skips partial ns b k) _ f)
      at false false e f = no_conflict-looked e f ∙ h e f

  no_conflict-shared : (i : ℕ) → i < wires_held partial ns b k → shared i ≡ true → no_conflict partial ns b k l ≡ false
  no_conflict-shared i h e =
      let j = any_below-true (wires_held partial ns b l) (is_wire (net_in ns l) (tracks_of ns b l) (wire_in ns b k i)) e in
      let p = wire_count-entry partial (net_in ns k) (tracks_of ns b k) i h in
      let q = wire_count-entry partial (net_in ns l) (tracks_of ns b l) j.0 j.1 in
      no_conflict-looked p.0 q.0 ∙ no_wire_shared-fails _ _ _ _ i j.0 p.1 q.1 j.2

  no_conflict-apart : ((i : ℕ) → i < wires_held partial ns b k → shared i ≡ false) → no_conflict partial ns b k l ≡ true
  no_conflict-apart h = no_conflict-where (λ e f.
      let p = wire_count-size partial (net_in ns k) (tracks_of ns b k) e in
      let q = wire_count-size partial (net_in ns l) (tracks_of ns b l) f in
      no_wire_shared-true (net_in ns k) (tracks_of ns b k) (net_in ns l) (tracks_of ns b l) (λ i j g o. apart i j (omega arith) (omega arith)))
    where
      apart : (i j : ℕ) → i < wires_held partial ns b k → j < wires_held partial ns b l
          → is_wire (net_in ns l) (tracks_of ns b l) (wire_in ns b k i) j ≡ false
      apart i j p q = cannot-pass _ (λ w. true≢false (sym (true-any_below (wires_held partial ns b l) _ j q w) ∙ h i p))

-- ---- Marked

-- the marks have the wire v
abbrev marks : List ℕ → Wire → Bool
marks taken v = held_at taken v.channel v.track

-- some net before k holds the wire v
abbrev held_before : Bool → List Net → List ℕ → ℕ → Wire → Bool
held_before partial ns b k v = any_below k (holds_wire partial ns b v)

-- the marks where the nets before k and the entries before i of net k are passed, and no wire was held twice
pub record Marked (partial : Bool) (ns : List Net) (b : List ℕ) (k i : ℕ) (taken : List ℕ) : Type 0 where
  pub sized : length taken ≡ 480
  -- marked are the wires of the nets and the entries passed
  pub held : (v : Wire) → marks taken v ≡ (held_before partial ns b k v || any_below i (is_wire (net_in ns k) (tracks_of ns b k) v))
  -- no wire of the entries passed is that of a net before k
  pub free : (j : ℕ) → j < i → held_before partial ns b k (wire_in ns b k j) ≡ false
  pub apart : every k (λ m. every m (no_conflict partial ns b m)) ≡ true

module _ (partial : Bool) (ns : List Net) (b : List ℕ) where
  pub marked-none : Marked partial ns b 0 0 (replicate 480 0)
  marked-none = record {
    sized = length-replicate {A = ℕ} 480 0;
    held = λ v. held_at-fresh 480 v.channel v.track ∙ sym (ap₂ ◌||◌ (any_below-none _) (any_below-none _));
    free = λ j h. absurd (omega arith);
    apart = every-none _;
  }

  module _ {k i : ℕ} {taken : List ℕ} (m : Marked partial ns b k i taken) where
    -- entry i, whose wire is free, is marked
    pub marked_more : (v : Wire) → v ≡ wire_in ns b k i → v.channel < 480 → marks taken v ≡ false
        → Marked partial ns b k (i + 1) (holding taken v.channel v.track)
    marked_more v p l e = record {
      sized = holding-length taken v.channel v.track ∙ m.sized;
      held = λ u. held_at-holding taken v.channel v.track u.channel u.track (omega (arith, m.sized)) e
          ∙ ap₂ ◌||◌ (ap (λ (y : Wire). same_wire y u) p) (m.held u)
          ∙ or_comm _ (before u || any_below i (wire u))
          ∙ or_assoc (before u) (any_below i (wire u)) (wire u i)
          ∙ ap (λ (z : Bool). before u || z) (sym (any_below-more i (wire u)));
      free = λ j h. at j h (dec_lt j i);
      apart = m.apart;
    }
      where
        before : Wire → Bool
        before u = held_before partial ns b k u

        wire : Wire → ℕ → Bool
        wire u j = is_wire (net_in ns k) (tracks_of ns b k) u j

        at : (j : ℕ) → j < i + 1 → Dec (j < i) → held_before partial ns b k (wire_in ns b k j) ≡ false
        at j h (yes f) = m.free j f
        at j h (no f) =
            let r : i ≡ j = omega arith in
            let n = sym (m.held v) ∙ e in
            let o : before v ≡ false = cannot-pass _ (λ z. true≢false (sym (left-true _ _ z) ∙ n)) in
            ap (λ (y : ℕ). before (wire_in ns b k y)) (sym r) ∙ ap before (sym p) ∙ o

    -- a wire that is held already: a net before k holds it, since the channels of one net differ
    pub marked-twice : (v : Wire) → v ≡ wire_in ns b k i → k < length ns → i < wires_held partial ns b k
        → channels_differ (net_in ns k) ≡ true → marks taken v ≡ true → wire_conflict partial ns b ≡ true
    unfolding wire_conflict channels_differ
    marked-twice v p l h d e = at (either_true _ _ (sym (m.held v) ∙ e))
      where
        inside : i < size (net_in ns k)
        inside = (wire_count-entry partial (net_in ns k) (tracks_of ns b k) i h).1

        at : (held_before partial ns b k v ≡ true) ⊎ (any_below i (is_wire (net_in ns k) (tracks_of ns b k) v) ≡ true)
            → wire_conflict partial ns b ≡ true
        at (inl f) =
            let j = any_below-true k (holds_wire partial ns b v) f in
            let g = ap (λ (y : Wire). holds_wire partial ns b y j.0) (sym p) ∙ j.2 in
            ap not
            (every-fails (length ns) (λ y. every y (no_conflict partial ns b y)) k l
            (every-fails k (no_conflict partial ns b k) j.0 j.1 (no_conflict-shared partial ns b k j.0 i h g)))
        at (inr f) =
            let j = any_below-true i (is_wire (net_in ns k) (tracks_of ns b k) v) f in
            let g = ap (λ (y : Wire). y.channel) (same_wire-true (wire_in ns b k j.0) v j.2 ∙ p) in
            absurd (omega (arith, differ-once (size (net_in ns k)) (channel (net_in ns k)) d j.0 i (omega (arith, j.1, inside)) inside g))

  module _ {k : ℕ} {taken : List ℕ} where
    -- every wire of net k is passed
    pub marked-net : Marked partial ns b k (wires_held partial ns b k) taken → Marked partial ns b (k + 1) 0 taken
    marked-net m = record {
      sized = m.sized;
      held = λ v. m.held v
          ∙ sym (any_below-more k (holds_wire partial ns b v))
          ∙ sym (or-false _)
          ∙ ap (λ (z : Bool). held_before partial ns b (k + 1) v || z) (sym (any_below-none _));
      free = λ j h. absurd (omega arith);
      apart = every_more k _ m.apart (at_every k _ (λ l h. no_conflict-apart partial ns b k l (λ i j. other l i h j)));
    }
      where
        other : (l i : ℕ) → l < k → i < wires_held partial ns b k → shared partial ns b k l i ≡ false
        other l i h j = cannot-pass _ (λ z. true≢false (sym (true-any_below k _ l h z) ∙ m.free i j))

    -- every net is passed
    pub marked_all : Marked partial ns b k 0 taken → k ≡ length ns → wire_conflict partial ns b ≡ false
    unfolding wire_conflict
    marked_all m e = ap not (ap (λ (n : ℕ). every n (λ y. every y (no_conflict partial ns b y))) (sym e) ∙ m.apart)

-- ---- Looking

-- a pass of the loop over the nets where 11 does not apply: net k has n entries and holds l wires
pub record Looking (partial : Bool) (s b : List ℕ) (k at z : ℕ) (r : List ℕ) (n l : ℕ) : Type 0 where
  pub pass : Pass s b k at z r
  pub low : track_out_of_range partial (width_of s) (nets s) b ≡ false
  pub filled : n ≡ size (net_of z r)
  pub count : l ≡ wire_count partial (net_of z r) (take (at + n - at) (drop at b))

-- entry i of net k holds a wire, and was read as v
pub record WireRead (partial : Bool) (s b : List ℕ) (k i : ℕ) (v : Wire) : Type 0 where
  pub inside : i < wires_held partial (nets s) b k
  pub own : v ≡ wire_in (nets s) b k i
  pub channel-lt : v.channel < 480
  pub track-lt : v.track < max_width

pub looking-of : {partial : Bool} {s b : List ℕ} {trailer : Trailer} {k at z : ℕ} {r : List ℕ} {n l : ℕ} → WellFormed s → trailer ≡ trailer_of s
    → length b ≡ entry_count (nets s) → track_out_of_range partial (width_of s) (nets s) b ≡ false → k < trailer.nets → at ≡ first_byte (nets s) k
    → (r ≡ record_bytes s k) × (z ≡ trailer.numbersize) → n ≡ size (net_of z r) → l ≡ wire_count partial (net_of z r) (take (at + n - at) (drop at b))
    → Looking partial s b k at z r n l
looking-of accepted own whole low h e r f g = record { pass = pass-of accepted own whole h e r; low = low; filled = f; count = g }

module _ {partial : Bool} {s b : List ℕ} {k at z : ℕ} {r : List ℕ} {n l : ℕ} (u : Looking partial s b k at z r n l) where
  pub looking-count : l ≡ wires_held partial (nets s) b k
  looking-count = u.count ∙ ap₂ (wire_count partial) (pass-net u.pass) (pass-tracks u.pass n u.filled)

  pub looking-inside : (i : ℕ) → i < l → (i < size (net_of z r)) × (i < length (take (at + n - at) (drop at b)))
  looking-inside i h =
      let m = wire_count-entry partial (net_of z r) (take (at + n - at) (drop at b)) i (omega (arith, u.count)) in
      (m.1, omega (arith, pass-filled u.pass n u.filled))

  pub looking-differ : channels_differ (net_in (nets s) k) ≡ true
  unfolding passes
  looking-differ =
      let p = u.pass in
      ap channels_differ (net_in-nets s k p.below)
      ∙ well_formed-passes s p.accepted Repeats k p.below

  pub looking-wire : (i c t : ℕ) → i < l → c ≡ channel (net_of z r) i → t ≡ get_or (take (at + n - at) (drop at b)) i 0
      → WireRead partial s b k i (record { channel = c; track = t })
  looking-wire i c t h p q =
      let ts = tracks_of (nets s) b k in
      let m = wire_count-entry partial (net_in (nets s) k) ts i (omega (arith, looking-count)) in
      let f = track_out_of_range-at partial (width_of s) (nets s) b u.low k (pass-counted u.pass) m.0 in
      let x = in_range-at (width_of s) (net_in (nets s) k) ts f i m.1 in
      let w = readable-width (well_formed-readable s u.pass.accepted) in
      let d : c ≡ channel (net_in (nets s) k) i = p ∙ ap (λ (o : Net). channel o i) (pass-net u.pass) in
      let y : t ≡ track_at (nets s) b k i = q ∙ ap (λ (v : List ℕ). get_or v i 0) (pass-tracks u.pass n u.filled) in
      record {
        inside = omega (arith, looking-count);
        own = ap₂ (λ (a e : ℕ). record { channel = a; track = e }) d y;
        channel-lt = omega (arith, pass-channel-lt u.pass i (looking-inside i h).0);
        track-lt = omega arith;
      }
