-- The nets of an assignment that are looked at: all of Check's, and of Refit's old one the routed ones, 01: the placed ones. Assumes nothing.
-- looked_nets: those nets of a list, accepted with it. is_routed-same, skipped-same: a net is routed, or not looked at, by its bytes as by its
-- channels. is_routed-resp, looked_nets-relisted, looked_nets-tracks: equivalent netlists with equal tracks.
use mathlib.Core.Path.{◌≡◌, refl, sym, ap, ◌∙◌}
use mathlib.Core.Logic.{inl, inr}
use Prim.Native.Nat.{ℕ, ◌<◌}
use mathlib.Core.List.{List, [], ◌∷◌, map}
use mathlib.Core.Bool.{Bool, true, false, not, ◌&&◌}
use lib.Dec.{eqb}
use lib.ListN.{length}
use Rattle.bounded.proofs.ListsLaws.{every_in-map, every_in-same}
use Rattle.net.specs.Net.{Net, channels}
use Rattle.net.specs.Nets.{entry_count, net_in, In}
use Rattle.net.specs.Facts.{SameNet, Apart, Accepted, Relisted}
use Rattle.nettracks.specs.NetTracks.{no_track, unrouted, skipped}
use Rattle.assignment.specs.Assignment.{tracks_of}
use Rattle.netsearch.specs.HomeTrack.{SameTracks, byte_of}
use Rattle.netsearch.specs.Refit.{is_routed}
use Rattle.netsearch.proofs.LegalLaws.{tracks_of-bytes}

-- ---- looked_nets

-- `τ x c` is the byte of the net number x on the channel c
module _ (partial : Bool) (τ : ℕ → ℕ → ℕ) where
  -- where `partial` is true, an unrouted net is not looked at
  abbrev pub is_skipped : Net → Bool
  is_skipped n = skipped partial (map (τ n.number) (channels n))

  -- the nets that are looked at, in the list's order
  unfoldable pub looked_nets : List Net → List Net
  looked_nets [] = []
  looked_nets (n ∷ ns) = elim (is_skipped n) [ true ↦ looked_nets ns | false ↦ n ∷ looked_nets ns ]

  pub looked_nets-in : (ns : List Net) (n : Net) → In n (looked_nets ns) → In n ns × (is_skipped n ≡ false)
  unfolding looked_nets
  looked_nets-in [] n i = absurd i
  looked_nets-in (m ∷ ms) n i = at (is_skipped m) refl i (looked_nets-in ms n)
    where
      at : (b : Bool) → is_skipped m ≡ b → In n (elim b [ true ↦ looked_nets ms | false ↦ m ∷ looked_nets ms ])
          → (In n (looked_nets ms) → In n ms × (is_skipped n ≡ false)) → In n (m ∷ ms) × (is_skipped n ≡ false)
      at true e k rec = let r = rec k in (inr r.0, r.1)
      at false e (inl q) rec = (inl q, ap is_skipped q ∙ e)
      at false e (inr k) rec = let r = rec k in (inr r.0, r.1)

  pub in-looked_nets : (ns : List Net) (n : Net) → In n ns → is_skipped n ≡ false → In n (looked_nets ns)
  unfolding looked_nets
  in-looked_nets [] n i h = i
  in-looked_nets (m ∷ ms) n (inl q) h = rw (ap is_skipped (sym q) ∙ h, looked_nets) (inl q)
  in-looked_nets (m ∷ ms) n (inr i) h = at (is_skipped m) (in-looked_nets ms n i h)
    where
      at : (b : Bool) → In n (looked_nets ms) → In n (elim b [ true ↦ looked_nets ms | false ↦ m ∷ looked_nets ms ])
      at true k = k
      at false k = inr k

  looked_nets-apart : (ns : List Net) → Apart ns → Apart (looked_nets ns)
  unfolding looked_nets
  looked_nets-apart [] a = tt
  looked_nets-apart (n ∷ ns) a = at (is_skipped n) (looked_nets-apart ns a.1)
    where
      at : (b : Bool) → Apart (looked_nets ns) → Apart (elim b [ true ↦ looked_nets ns | false ↦ n ∷ looked_nets ns ])
      at true r = r
      at false r = ((λ m i. a.0 m (looked_nets-in ns m i).0), r)

  pub looked_nets-accepted : (meet : ℕ → ℕ → Bool) (ns : List Net) → Accepted meet ns → Accepted meet (looked_nets ns)
  looked_nets-accepted meet ns A = record { each = λ n i. A.each n (looked_nets-in ns n i).0; apart = looked_nets-apart ns A.apart }

-- ---- is_routed

module _ (meet : ℕ → ℕ → Bool) (ns : List Net) (A : Accepted meet ns) (b : List ℕ) (whole : length b ≡ entry_count ns)
    (k : ℕ) (l : k < length ns) where
  -- by its bytes in the assignment's order, and channel by channel
  pub is_routed-same : is_routed (byte_of ns b) (net_in ns k) ≡ not (unrouted (tracks_of ns b k))
  unfolding is_routed
  is_routed-same = ap (λ (ts : List ℕ). not (unrouted ts)) (sym (tracks_of-bytes meet ns A b whole k l))

  pub skipped-same : (partial : Bool) → skipped partial (tracks_of ns b k) ≡ is_skipped partial (byte_of ns b) (net_in ns k)
  skipped-same partial = ap (skipped partial) (tracks_of-bytes meet ns A b whole k l)

-- ---- equivalent netlists

module _ (ns ms : List Net) (r : Relisted ns ms) (τ σ : ℕ → ℕ → ℕ) (S : SameTracks ns τ σ) where
  unrouted-resp : (n m : Net) → In n ns → SameNet n m → unrouted (map (τ n.number) (channels n)) ≡ unrouted (map (σ m.number) (channels m))
  unfolding unrouted
  unrouted-resp n m i s =
      every_in-map _ (τ n.number) (channels n)
      ∙ every_in-same _ _ (channels n) (channels m) s.channels
      (λ c h. ap (λ (x : ℕ). eqb x no_track) (S n i c h ∙ ap (λ (x : ℕ). σ x c) s.number))
      ∙ sym (every_in-map _ (σ m.number) (channels m))

  pub is_routed-resp : (n m : Net) → In n ns → SameNet n m → is_routed τ n ≡ is_routed σ m
  unfolding is_routed
  is_routed-resp n m i s = ap not (unrouted-resp n m i s)

  module _ (partial : Bool) where
    is_skipped-resp : (n m : Net) → In n ns → SameNet n m → is_skipped partial τ n ≡ is_skipped partial σ m
    unfolding skipped
    is_skipped-resp n m i s = ap (λ (x : Bool). partial && x) (unrouted-resp n m i s)

    pub looked_nets-relisted : Relisted (looked_nets partial τ ns) (looked_nets partial σ ms)
    looked_nets-relisted = record {
      there = λ n i.
          let k = looked_nets-in partial τ ns n i in
          let a = r.there n k.0 in
          (a.0, in-looked_nets partial σ ms a.0 a.1 (sym (is_skipped-resp n a.0 k.0 a.2) ∙ k.1), a.2);
      back = λ m i.
          let k = looked_nets-in partial σ ms m i in
          let a = r.back m k.0 in
          (a.0, in-looked_nets partial τ ns a.0 a.1 (is_skipped-resp a.0 m a.1 a.2 ∙ k.1), a.2);
    }

    pub looked_nets-tracks : SameTracks (looked_nets partial τ ns) τ σ
    looked_nets-tracks n i = S n (looked_nets-in partial τ ns n i).0
