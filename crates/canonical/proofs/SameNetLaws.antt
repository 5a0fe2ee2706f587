-- The canonical form of an accepted net is the same net (specs/Canonical.antt, `canonical_net`). Assumes nothing.
-- canonical-edge, canonical-net: its edges, and all of it. canonical-accepted: it is accepted. canonical-order: its entries stand as 02 says.
-- canonical-same: nets with the same channels and edges have one canonical form.
use mathlib.Core.Path.{◌≡◌, refl, sym, subst, ap, ap₂, ◌∙◌, fun_ext}
use mathlib.Core.Logic.{◌⊎◌, inl, inr}
use Prim.Native.Nat.{ℕ, ◌≤◌, ◌<◌}
use native.Mathlib.Omega.{arith}
use native.Mathlib.Decide.{dec_lt}
use mathlib.Core.Bool.{Bool, true}
use Rattle.bounded.specs.Bounded.{build}
use Rattle.bounded.specs.Lists.{place}
use Rattle.bounded.proofs.BoundedLaws.{same_test, cannot-pass}
use Rattle.bounded.proofs.ListsLaws.{memb-place}
use Rattle.bounded.proofs.OnceLaws.{Once, index-once, once-le}
use Rattle.grid.specs.Grid.{max_channels}
use Rattle.net.specs.Net.{Net, size, channels, channel, parent, has, edge, entry_of}
use Rattle.net.specs.Facts.{SameNet, AcceptedNet}
use Rattle.net.proofs.NetLaws.{channels-length, has-entry}
use Rattle.netsearch.proofs.TrackLaws.{edge-links, edge-down, edge-up, edge-has, home_same}
use Rattle.canonical.specs.Facts.{written_of, next_of}
use Rattle.canonical.specs.Canonical.{entry_next, canonical_net}
use Rattle.canonical.specs.Standard.{InTreeOrder}
use Rattle.canonical.proofs.WrittenLaws.{written_none, written-length, written_at}
use Rattle.canonical.proofs.TreeLaws.{Joined, edge-entries, edge-sym}
use Rattle.canonical.proofs.CanonicalLaws.{canonical-size, canonical-channel, next-home, next-lowest, canonical-has, parent-reached, canonical-earlier, channel-written, later-parent, canonical-once}

module _ (meet : ℕ → ℕ → Bool) (n : Net) (G : AcceptedNet meet n) (low : (c : ℕ) → has n c ≡ true → c < max_channels) where
  -- its edges are the net's
  edge-of-net : (c d : ℕ) → edge (canonical_net n) c d ≡ true → edge n c d ≡ true
  edge-of-net c d e = let r = edge-links (canonical_net n) c d e in at r.0 r.1.0 (omega (arith, canonical-size n, r.1.1)) r.1.2
    where
      at : (i : ℕ) → 0 < i → i < size n
          → ((channel (canonical_net n) (parent (canonical_net n) i) ≡ c) × (channel (canonical_net n) i ≡ d))
          ⊎ ((channel (canonical_net n) (parent (canonical_net n) i) ≡ d) × (channel (canonical_net n) i ≡ c))
          → edge n c d ≡ true
      at i z h (inl q) = edge-sym meet n G d c (sym (ap₂ (edge n) q.1 q.0) ∙ (parent-reached meet n G low i z h).1.joint)
      at i z h (inr q) = sym (ap₂ (edge n) q.1 q.0) ∙ (parent-reached meet n G low i z h).1.joint

  net-of-edge : (c d : ℕ) → edge n c d ≡ true → edge (canonical_net n) c d ≡ true
  net-of-edge c d e =
      let h = edge-has meet n G c d e in
      let a = has-entry (canonical_net n) c (canonical-has meet n G low c ∙ h.0) in
      let b = has-entry (canonical_net n) d (canonical-has meet n G low d ∙ h.1) in
      sym (ap₂ (edge (canonical_net n)) a.1 b.1)
      ∙ at (entry_of (canonical_net n) c) (entry_of (canonical_net n) d) (omega (arith, canonical-size n)) (omega (arith, canonical-size n))
      (ap₂ (edge n) a.1 b.1 ∙ e) (dec_lt (entry_of (canonical_net n) c) (entry_of (canonical_net n) d)) (dec_lt (entry_of (canonical_net n) d) (entry_of (canonical_net n) c))
    where
      m : Net
      m = canonical_net n

      at : (i j : ℕ) → i < size n → j < size n → edge n (channel m i) (channel m j) ≡ true → Dec (i < j) → Dec (j < i)
          → edge m (channel m i) (channel m j) ≡ true
      at i j h l q (yes o) p =
          ap (λ (x : ℕ). edge m x (channel m j)) (sym (later-parent meet n G low i j o l (edge-sym meet n G _ _ q)))
          ∙ edge-down m j (omega arith) (omega (arith, canonical-size n))
      at i j h l q (no o) (yes p) =
          ap (edge m (channel m i)) (sym (later-parent meet n G low j i p h q)) ∙ edge-up m i (omega arith) (omega (arith, canonical-size n))
      at i j h l q (no o) (no p) =
          let e : i ≡ j = omega arith in absurd (loop (ap (λ (k : ℕ). edge n (channel m i) (channel m k)) e ∙ q))
        where
          loop : edge n (channel m i) (channel m i) ≡ true → ⊥
          loop q =
              let r = edge-entries meet n G (channel m i) (channel m i) q in
              own r.2 (has-entry n (channel m i) r.0).0
            where
              own : Joined meet n G (entry_of n (channel m i)) (entry_of n (channel m i)) → entry_of n (channel m i) < size n → ⊥
              own (inl z) k = omega (arith, G.earlier (entry_of n (channel m i)) z.0 k, z.1)
              own (inr z) k = omega (arith, G.earlier (entry_of n (channel m i)) z.0 k, z.1)

  pub canonical-edge : (c d : ℕ) → edge (canonical_net n) c d ≡ edge n c d
  canonical-edge c d = same_test _ _ (edge-of-net c d) (net-of-edge c d)

  pub canonical-net : SameNet n (canonical_net n)
  unfolding canonical_net
  canonical-net = record { number = refl; channels = λ c. sym (canonical-has meet n G low c); edges = λ c d. sym (canonical-edge c d) }

  pub canonical-accepted : ((c d : ℕ) → meet c d ≡ true → meet d c ≡ true) → AcceptedNet meet (canonical_net n)
  canonical-accepted turn = record {
    filled = omega (arith, canonical-size n, G.filled);
    earlier = λ i z h. canonical-earlier meet n G low i z (omega (arith, canonical-size n));
    meets = λ i z h. meets _ _ (parent-reached meet n G low i z (omega (arith, canonical-size n))).1.joint;
    once = λ i j h l. canonical-once meet n G low i j (omega (arith, canonical-size n)) (omega (arith, canonical-size n));
  }
    where
      -- channels with a joint meet
      meets : (c d : ℕ) → edge n c d ≡ true → meet d c ≡ true
      meets c d e =
          let r = edge-entries meet n G c d e in
          let a = has-entry n c r.0 in
          let b = has-entry n d r.1 in
          ap₂ meet (sym b.1) (sym a.1) ∙ at (entry_of n c) (entry_of n d) a.0 b.0 r.2
        where
          at : (i j : ℕ) → i < size n → j < size n → Joined meet n G i j → meet (channel n j) (channel n i) ≡ true
          at i j h l (inl q) = turn (channel n i) (channel n j) (ap (λ (k : ℕ). meet (channel n k) (channel n j)) (sym q.1) ∙ G.meets j q.0 l)
          at i j h l (inr q) = ap (λ (k : ℕ). meet (channel n k) (channel n i)) (sym q.1) ∙ G.meets i q.0 h

  -- its entries stand as 02 says
  pub canonical-order : ((c d : ℕ) → meet c d ≡ true → meet d c ≡ true) → InTreeOrder (canonical_net n)
  canonical-order turn = record {
    start =
        canonical-channel n 0 G.filled ∙ ap (next_of n) (written_none (has n) (edge n)) ∙ next-home meet n G low
        ∙ home_same meet n (canonical_net n) canonical-net G (canonical-accepted turn);
    next = λ k z h.
        let l : k < size n = omega (arith, canonical-size n) in
        let r = parent-reached meet n G low k z l in
        record {
          fresh = λ i o e. omega (arith, canonical-once meet n G low i k (omega arith) l e);
          before = r.0;
          joint = canonical-edge _ _ ∙ r.1.joint;
        };
    lowest = λ k c j z h r.
        let l : k < size n = omega (arith, canonical-size n) in
        subst (λ (x : ℕ). x ≤ c) (sym (canonical-channel n k l))
        (next-lowest meet n G low (written_of n k) c (channel (canonical_net n) j)
        (record {
          fresh = cannot-pass _ (λ m.
              let p = memb-place c (written_of n k) m in
              let i = place c (written_of n k) in
              let o : i < k = omega (arith, written-length (has n) (edge n) k) in
              r.fresh i o (canonical-channel n i (omega arith) ∙ sym (written_at (has n) (edge n) k i o) ∙ p.1));
          from = channel-written meet n G low j k r.before (omega arith);
          joint = sym (canonical-edge c _) ∙ r.joint;
        }));
  }

-- ---- the same net

module _ (meet : ℕ → ℕ → Bool) (n m : Net) (S : SameNet n m) (G : AcceptedNet meet n) (H : AcceptedNet meet m) where
  channels-once : (x : Net) → AcceptedNet meet x → Once (channels x)
  channels-once x A = index-once (channels x) (λ i j h l. A.once i j (omega (arith, channels-length x)) (omega (arith, channels-length x)))

  pub size_same : size n ≡ size m
  size_same =
      omega (
        arith,
        channels-length n,
        channels-length m,
        once-le (channels n) (channels m) (channels-once n G) (λ x h. sym (S.channels x) ∙ h),
        once-le (channels m) (channels n) (channels-once m H) (λ x h. S.channels x ∙ h),
      )

  pub canonical-same : canonical_net n ≡ canonical_net m
  unfolding canonical_net
  canonical-same =
      ap (λ (x : ℕ). form x (size n) (has n) (edge n)) S.number
      ∙ ap (λ (k : ℕ). form m.number k (has n) (edge n)) size_same
      ∙ ap₂ (form m.number (size m)) (fun_ext S.channels) (fun_ext (λ c. fun_ext (S.edges c)))
    where
      form : ℕ → ℕ → (ℕ → Bool) → (ℕ → ℕ → Bool) → Net
      form x k h e = record { number = x; entries = build k (entry_next h e) }
