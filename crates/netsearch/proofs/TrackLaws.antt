-- The tracks of a net from its home track: they are connected at every edge, and no others are. Assumes nothing.
-- edge: an entry joins its channel and its parent's. has, entry_of, home: a net's channels and entries. track: connected, below the width, the
-- home track at the home, equal on the same net. wires_from: which wires these are.
use mathlib.Core.Path.{◌≡◌, refl, sym, ap, ◌∙◌}
use Prim.Native.Nat.{ℕ, zero, suc, ◌≤◌, ◌<◌}
use native.Mathlib.Omega.{arith}
use mathlib.Core.Bool.{Bool, true, ◌&&◌}
use mathlib.Core.Logic.{◌⊎◌, inl, inr}
use lib.Dec.{ltb, eqb}
use borrow.Author.Tests.{eqb-true, eq-eqb, ltb-true, lt-ltb}
use Rattle.bounded.proofs.BoundedLaws.{either_true, left-true, right-true, both_true, true-both, same_test, any_below-true, true-any_below}
use Rattle.bounded.specs.Lists.{any_in}
use Rattle.bounded.proofs.ListsLaws.{any_in-true, true-any_in, any_in-map, lowest-in, lowest-same}
use Rattle.grid.specs.Grid.{Wire, same_wire, wire}
use Rattle.grid.proofs.WireLaws.{same_wire-true, true-same_wire}
use Rattle.net.specs.Net.{Net, channels, size, channel, parent, has, edge_at, edge, entry_of}
use Rattle.switchbox.specs.Facts.{Connects}
use Rattle.net.specs.Facts.{SameNet, AcceptedNet}
use Rattle.net.proofs.NetLaws.{channels-length, has-at, has-entry}
use Rattle.netsearch.specs.HomeTrack.{home, track_up, track_down, track, wires_from}
use Rattle.netsearch.specs.Facts.{EdgesConnected}

-- the entry at place i joins its channel and its parent's
abbrev pub Links : Net → ℕ → ℕ → ℕ → Type 0
Links n c d i = (0 < i) × (i < size n) × (((channel n (parent n i) ≡ c) × (channel n i ≡ d)) ⊎ ((channel n (parent n i) ≡ d) × (channel n i ≡ c)))

pub edge-links : (n : Net) (c d : ℕ) → edge n c d ≡ true → (i : ℕ) × Links n c d i
unfolding edge edge_at
edge-links n c d h =
    let r = any_below-true (size n) _ h in
    let b = both_true (ltb 0 r.0) _ r.2 in
    (r.0, (ltb-true 0 r.0 b.0, r.1, at r.0 (either_true _ _ b.1)))
  where
    eqs : (a b c d : ℕ) → (eqb a c && eqb b d) ≡ true → (a ≡ c) × (b ≡ d)
    eqs a b c d e = let r = both_true (eqb a c) (eqb b d) e in (eqb-true a c r.0, eqb-true b d r.1)

    at : (i : ℕ) → ((eqb (channel n (parent n i)) c && eqb (channel n i) d) ≡ true) ⊎ ((eqb (channel n (parent n i)) d && eqb (channel n i) c) ≡ true)
        → ((channel n (parent n i) ≡ c) × (channel n i ≡ d)) ⊎ ((channel n (parent n i) ≡ d) × (channel n i ≡ c))
    at i (inl e) = inl (eqs (channel n (parent n i)) (channel n i) c d e)
    at i (inr e) = inr (eqs (channel n (parent n i)) (channel n i) d c e)

equal-both : (a b : ℕ) → (eqb a a && eqb b b) ≡ true
equal-both a b = true-both (eqb a a) (eqb b b) (eq-eqb a a refl) (eq-eqb b b refl)

pub edge-down : (n : Net) (i : ℕ) → 0 < i → i < size n → edge n (channel n (parent n i)) (channel n i) ≡ true
unfolding edge edge_at
edge-down n i l h = let p = channel n (parent n i) in let c = channel n i in true-any_below (size n) _ i h (true-both (ltb 0 i) _ (lt-ltb 0 i l) (left-true (eqb p p && eqb c c) (eqb p c && eqb c p) (equal-both p c)))

pub edge-up : (n : Net) (i : ℕ) → 0 < i → i < size n → edge n (channel n i) (channel n (parent n i)) ≡ true
unfolding edge edge_at
edge-up n i l h = let p = channel n (parent n i) in let c = channel n i in true-any_below (size n) _ i h (true-both (ltb 0 i) _ (lt-ltb 0 i l) (right-true (eqb p c && eqb c p) (eqb p p && eqb c c) (equal-both p c)))

module _ (meet : ℕ → ℕ → Bool) (n : Net) (G : AcceptedNet meet n) where
  pub entry_of-at : (i : ℕ) → i < size n → entry_of n (channel n i) ≡ i
  entry_of-at i h = let r = has-entry n (channel n i) (has-at n i h) in G.once _ i r.0 h r.1

  pub has-home : has n (home n) ≡ true
  has-home = lowest-in (channels n) (omega (arith, channels-length n, G.filled))

  -- an edge's channels are the net's
  pub edge-has : (c d : ℕ) → edge n c d ≡ true → (has n c ≡ true) × (has n d ≡ true)
  edge-has c d j = let r = edge-links n c d j in at r.0 r.1.0 r.1.1 r.1.2
    where
      at : (i : ℕ) → 0 < i → i < size n → ((channel n (parent n i) ≡ c) × (channel n i ≡ d)) ⊎ ((channel n (parent n i) ≡ d) × (channel n i ≡ c)) → (has n c ≡ true) × (has n d ≡ true)
      at i z h (inl e) = let p = G.earlier i z h in (ap (has n) (sym e.0) ∙ has-at n (parent n i) (omega arith), ap (has n) (sym e.1) ∙ has-at n i h)
      at i z h (inr e) = let p = G.earlier i z h in (ap (has n) (sym e.1) ∙ has-at n i h, ap (has n) (sym e.0) ∙ has-at n (parent n i) (omega arith))

  module _ (partner : ℕ → ℕ → ℕ → ℕ) where
    -- more room changes nothing
    track_down-any : (k l i t : ℕ) → i ≤ k → i ≤ l → i < size n → track_down partner n k i t ≡ track_down partner n l i t
    unfolding track_down
    track_down-any zero zero i t a b h = refl
    track_down-any zero (suc l) zero t a b h = refl
    track_down-any zero (suc l) (suc i) t a b h = absurd (omega arith)
    track_down-any (suc k) zero zero t a b h = refl
    track_down-any (suc k) zero (suc i) t a b h = absurd (omega arith)
    track_down-any (suc k) (suc l) zero t a b h = refl
    track_down-any (suc k) (suc l) (suc i) t a b h =
        let p = G.earlier (suc i) (omega arith) h in
        ap (partner _ _) (track_down-any k l (parent n (suc i)) t (omega arith) (omega arith) (omega arith))

    track_down-step : (k i t : ℕ) → i ≤ k → 0 < i → i < size n → track_down partner n k i t ≡ partner (channel n (parent n i)) (channel n i) (track_down partner n k (parent n i) t)
    unfolding track_down
    track_down-step k zero t a z h = absurd (omega arith)
    track_down-step zero (suc i) t a z h = absurd (omega arith)
    track_down-step (suc k) (suc i) t a z h =
        let p = G.earlier (suc i) z h in
        ap (partner _ _) (track_down-any k (suc k) (parent n (suc i)) t (omega arith) (omega arith) (omega arith))

    -- an assignment that keeps the edges is found by going down, and by going up
    module _ (τ : ℕ → ℕ) (K : EdgesConnected partner n τ) where
      track_down-keeps : (k i : ℕ) → i ≤ k → i < size n → track_down partner n k i (τ (channel n 0)) ≡ τ (channel n i)
      unfolding track_down
      track_down-keeps zero zero a h = refl
      track_down-keeps zero (suc i) a h = absurd (omega arith)
      track_down-keeps (suc k) zero a h = refl
      track_down-keeps (suc k) (suc i) a h =
          let p = G.earlier (suc i) (omega arith) h in
          ap (partner _ _) (track_down-keeps k (parent n (suc i)) (omega arith) (omega arith)) ∙ sym (K _ _ (edge-down n (suc i) (omega arith) h))

      track_up-keeps : (k i : ℕ) → i ≤ k → i < size n → track_up partner n k i (τ (channel n i)) ≡ τ (channel n 0)
      unfolding track_up
      track_up-keeps zero zero a h = refl
      track_up-keeps zero (suc i) a h = absurd (omega arith)
      track_up-keeps (suc k) zero a h = refl
      track_up-keeps (suc k) (suc i) a h =
          let p = G.earlier (suc i) (omega arith) h in
          ap (track_up partner n k (parent n (suc i))) (sym (K _ _ (edge-up n (suc i) (omega arith) h))) ∙ track_up-keeps k (parent n (suc i)) (omega arith) (omega arith)

      -- only one assignment keeps the edges and gives the home its track
      pub connected-track : (c : ℕ) → has n c ≡ true → τ c ≡ track partner n (τ (home n)) c
      unfolding track
      connected-track c h =
          let p = has-entry n c h in
          let q = has-entry n (home n) has-home in
          sym (ap τ p.1) ∙ sym (track_down-keeps (size n) (entry_of n c) (omega arith) p.0)
          ∙ ap (track_down partner n (size n) (entry_of n c)) (sym (track_up-keeps (size n) (entry_of n (home n)) (omega arith) q.0) ∙ ap (λ (x : ℕ). track_up partner n (size n) (entry_of n (home n)) (τ x)) q.1)

    module _ (w : ℕ) (P : Connects w meet partner) where
      track_up-lt : (k i t : ℕ) → i < size n → t < w → track_up partner n k i t < w
      unfolding track_up
      track_up-lt zero i t h l = l
      track_up-lt (suc k) zero t h l = l
      track_up-lt (suc k) (suc i) t h l =
          let p = G.earlier (suc i) (omega arith) h in
          track_up-lt k (parent n (suc i)) _ (omega arith) (P.within _ _ t (P.either _ _ (G.meets (suc i) (omega arith) h)) l)

      track_down-lt : (k i t : ℕ) → i < size n → t < w → track_down partner n k i t < w
      unfolding track_down
      track_down-lt zero i t h l = l
      track_down-lt (suc k) zero t h l = l
      track_down-lt (suc k) (suc i) t h l =
          let p = G.earlier (suc i) (omega arith) h in
          P.within _ _ _ (G.meets (suc i) (omega arith) h) (track_down-lt k (parent n (suc i)) t (omega arith) l)

      -- down undoes up
      track_down-track_up : (k i t : ℕ) → i < size n → t < w → track_down partner n k i (track_up partner n k i t) ≡ t
      unfolding track_up track_down
      track_down-track_up zero i t h l = refl
      track_down-track_up (suc k) zero t h l = refl
      track_down-track_up (suc k) (suc i) t h l =
          let p = G.earlier (suc i) (omega arith) h in
          let m = P.either _ _ (G.meets (suc i) (omega arith) h) in
          ap (partner _ _) (track_down-track_up k (parent n (suc i)) _ (omega arith) (P.within _ _ t m l)) ∙ P.undone _ _ t m l

      -- partners at each entry's parent are partners at every edge, in either order
      pub links-connected : (τ : ℕ → ℕ) → ((c : ℕ) → has n c ≡ true → τ c < w)
          → ((i : ℕ) → 0 < i → i < size n → τ (channel n i) ≡ partner (channel n (parent n i)) (channel n i) (τ (channel n (parent n i)))) → EdgesConnected partner n τ
      links-connected τ b f c d j = let r = edge-links n c d j in at r.0 r.1.0 r.1.1 r.1.2
        where
          at : (i : ℕ) → 0 < i → i < size n → ((channel n (parent n i) ≡ c) × (channel n i ≡ d)) ⊎ ((channel n (parent n i) ≡ d) × (channel n i ≡ c)) → τ d ≡ partner c d (τ c)
          at i z h (inl e) = let q = f i z h in let a = e.0 in let b = e.1 in cc
          at i z h (inr e) =
              let q = f i z h in
              let p = G.earlier i z h in
              let u = P.undone _ _ (τ (channel n (parent n i))) (G.meets i z h) (b _ (has-at n (parent n i) (omega arith))) in
              let a = e.0 in let b = e.1 in cc

      module _ (t : ℕ) (l : t < w) where
        root-within : track_up partner n (size n) (entry_of n (home n)) t < w
        root-within = track_up-lt (size n) (entry_of n (home n)) t (has-entry n (home n) has-home).0 l

        -- the home gets its track
        pub track-home : track partner n t (home n) ≡ t
        unfolding track
        track-home = track_down-track_up (size n) (entry_of n (home n)) t (has-entry n (home n) has-home).0 l

        -- every track is below w
        pub track-lt : (c : ℕ) → has n c ≡ true → track partner n t c < w
        unfolding track
        track-lt c h = track_down-lt (size n) (entry_of n c) _ (has-entry n c h).0 root-within

        pub track-down : (i : ℕ) → 0 < i → i < size n → track partner n t (channel n i) ≡ partner (channel n (parent n i)) (channel n i) (track partner n t (channel n (parent n i)))
        unfolding track
        track-down i z h =
            let p = G.earlier i z h in
            let r = track_up partner n (size n) (entry_of n (home n)) t in
            ap (λ (x : ℕ). track_down partner n (size n) x r) (entry_of-at i h)
            ∙ track_down-step (size n) i r (omega arith) z h
            ∙ ap (partner _ _) (ap (λ (x : ℕ). track_down partner n (size n) x r) (sym (entry_of-at (parent n i) (omega arith))))

        -- the tracks keep every edge
        pub track-connected : EdgesConnected partner n (track partner n t)
        track-connected = links-connected (track partner n t) track-lt track-down

-- two nets with the same channels and edges
module _ (meet : ℕ → ℕ → Bool) (n m : Net) (S : SameNet n m) (G : AcceptedNet meet n) (H : AcceptedNet meet m) where
  pub home_same : home n ≡ home m
  home_same = lowest-same (channels n) (channels m) (omega (arith, channels-length n, G.filled)) (omega (arith, channels-length m, H.filled)) S.channels

  -- they have the same tracks from one home track
  pub track-same : (partner : ℕ → ℕ → ℕ → ℕ) (w : ℕ) → Connects w meet partner → (t : ℕ) → t < w → (c : ℕ) → has n c ≡ true → track partner n t c ≡ track partner m t c
  track-same partner w P t l c h =
      connected-track meet m H partner (track partner n t) (λ a b j. track-connected meet n G partner w P t l a b (S.edges a b ∙ j)) c (sym (S.channels c) ∙ h)
      ∙ ap (λ (x : ℕ). track partner m x c) (ap (track partner n t) (sym home_same) ∙ track-home meet n G partner w P t l)

-- ---- wires_from

-- a wire is one of those of a home track exactly if its channel is the net's and its track the one there
pub wires_from-has : (partner : ℕ → ℕ → ℕ → ℕ) (n : Net) (t c x : ℕ)
    → any_in (same_wire (wire c x)) (wires_from partner n t) ≡ (has n c && eqb (track partner n t c) x)
wires_from-has partner n t c x =
    any_in-map (same_wire (wire c x)) on (channels n)
    ∙ same_test _ _
    (λ h.
    let r = any_in-true (λ d. same_wire (wire c x) (on d)) (channels n) h in
    let e = same_wire-true (wire c x) (on r.0) r.2 in
    let q = ap (λ (v : Wire). v.channel) e in
    true-both (has n c) _ (ap (has n) q ∙ r.1)
    (eq-eqb _ _ (ap (track partner n t) q ∙ sym (ap (λ (v : Wire). v.track) e))))
    (λ h.
    let b = both_true (has n c) (eqb (track partner n t c) x) h in
    true-any_in (λ d. same_wire (wire c x) (on d)) (channels n) c b.0
    (true-same_wire (wire c x) (on c) (ap (wire c) (sym (eqb-true _ _ b.1)))))
  where
    on : ℕ → Wire
    on d = wire d (track partner n t d)
