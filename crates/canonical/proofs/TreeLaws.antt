-- A net's own tree, and the channels that hang together in it. Assumes nothing.
-- Joined, edge: joints by entries. Grown: channels that hang together; grown-more, grown-unique, grown-next: one more that has a joint to them
-- keeps this, it has one such joint, and there is one more until all are there.
use mathlib.Core.Path.{◌≡◌, refl, sym, subst, ap, ap₂, ◌∙◌}
use mathlib.Core.Logic.{◌⊎◌, inl, inr}
use Prim.Native.Nat.{ℕ, zero, suc, ◌+◌, ◌≤◌, ◌<◌}
use native.Mathlib.Omega.{arith}
use native.Mathlib.Decide.{dec_lt}
use mathlib.Core.List.{List, [], ◌∷◌, ◌++◌}
use mathlib.Core.Bool.{Bool, true, false, not, true≢false}
use lib.ListN.{length}
use borrow.Author.Tests.{not-true}
use Rattle.bounded.specs.Bounded.{any_below}
use Rattle.bounded.specs.Lists.{memb}
use Rattle.bounded.proofs.BoundedLaws.{cannot-pass, any_below-true, true-any_below}
use Rattle.bounded.proofs.OnceLaws.{Once, Within, index-once, once_more, once-le}
use Rattle.net.specs.Net.{Net, size, channels, channel, parent, has, edge, entry_of}
use Rattle.net.specs.Facts.{AcceptedNet}
use Rattle.net.proofs.NetLaws.{channels-length, has-at, has-entry}
use Rattle.netsearch.proofs.TrackLaws.{edge-links, edge-down, edge-up, edge-has}
use Rattle.canonical.proofs.WrittenLaws.{memb-more, memb-kept, memb-last}

-- ---- the net's own tree, by entries

module _ (meet : ℕ → ℕ → Bool) (n : Net) (G : AcceptedNet meet n) where
  -- one of the entries i and j is the other's parent
  abbrev pub Joined : ℕ → ℕ → Type 0
  Joined i j = ((0 < j) × (parent n j ≡ i)) ⊎ ((0 < i) × (parent n i ≡ j))

  pub edge-joined : (i j : ℕ) → i < size n → j < size n → edge n (channel n i) (channel n j) ≡ true → Joined i j
  edge-joined i j h l e = let r = edge-links n (channel n i) (channel n j) e in at r.0 r.1.0 r.1.1 r.1.2
    where
      at : (k : ℕ) → 0 < k → k < size n
          → ((channel n (parent n k) ≡ channel n i) × (channel n k ≡ channel n j)) ⊎ ((channel n (parent n k) ≡ channel n j) × (channel n k ≡ channel n i))
          → Joined i j
      at k z m (inl q) =
          let p = G.earlier k z m in
          let a = G.once (parent n k) i (omega arith) h q.0 in
          let b = G.once k j m l q.1 in
          inl (omega arith, ap (parent n) (sym b) ∙ a)
      at k z m (inr q) =
          let p = G.earlier k z m in
          let a = G.once (parent n k) j (omega arith) l q.0 in
          let b = G.once k i m h q.1 in
          inr (omega arith, ap (parent n) (sym b) ∙ a)

  pub joined-edge : (i j : ℕ) → i < size n → j < size n → Joined i j → edge n (channel n i) (channel n j) ≡ true
  joined-edge i j h l (inl q) = ap (λ (k : ℕ). edge n (channel n k) (channel n j)) (sym q.1) ∙ edge-down n j q.0 l
  joined-edge i j h l (inr q) = ap (λ (k : ℕ). edge n (channel n i) (channel n k)) (sym q.1) ∙ edge-up n i q.0 h

  -- an edge's ends, as entries
  pub edge-entries : (c d : ℕ) → edge n c d ≡ true → (has n c ≡ true) × (has n d ≡ true) × Joined (entry_of n c) (entry_of n d)
  edge-entries c d e =
      let h = edge-has meet n G c d e in
      let a = has-entry n c h.0 in
      let b = has-entry n d h.1 in
      (h.0, h.1, edge-joined (entry_of n c) (entry_of n d) a.0 b.0 (ap₂ (edge n) a.1 b.1 ∙ e))

  pub edge-sym : (c d : ℕ) → edge n c d ≡ true → edge n d c ≡ true
  edge-sym c d e =
      let h = edge-entries c d e in
      let a = has-entry n c h.0 in
      let b = has-entry n d h.1 in
      sym (ap₂ (edge n) b.1 a.1) ∙ joined-edge (entry_of n d) (entry_of n c) b.0 a.0 (turned h.2)
    where
      turned : {i j : ℕ} → Joined i j → Joined j i
      turned (inl q) = inr q
      turned (inr q) = inl q

  -- the channels ws hang together in the net's tree: each but the highest, `top`, has its parent among them
  pub record Grown (ws : List ℕ) : Type 0 where
    pub once : Once ws
    pub within : Within ws (channels n)
    pub top : ℕ
    pub low : top < size n
    pub there : memb (channel n top) ws ≡ true
    pub least : (i : ℕ) → i < size n → memb (channel n i) ws ≡ true → top ≤ i
    pub up : (i : ℕ) → i < size n → memb (channel n i) ws ≡ true → (i ≡ top) ⊎ ((0 < i) × (memb (channel n (parent n i)) ws ≡ true))

  -- c is not among ws and has a joint to d, which is
  pub record Reached (ws : List ℕ) (c d : ℕ) : Type 0 where
    pub fresh : memb c ws ≡ false
    pub from : memb d ws ≡ true
    pub joint : edge n c d ≡ true

  module _ (ws : List ℕ) (g : Grown ws) where
    -- an entry among ws whose parent is not is the highest
    top_of : (i j : ℕ) → j < size n → memb (channel n i) ws ≡ false → memb (channel n j) ws ≡ true → parent n j ≡ i → j ≡ g.top
    top_of i j h f m p = at (g.up j h m)
      where
        at : (j ≡ g.top) ⊎ ((0 < j) × (memb (channel n (parent n j)) ws ≡ true)) → j ≡ g.top
        at (inl e) = e
        at (inr q) = absurd (true≢false (sym q.1 ∙ ap (λ (k : ℕ). memb (channel n k) ws) p ∙ f))

    -- one entry more leaves them among the net's channels
    inside : (i : ℕ) → i < size n → Within (ws ++ (channel n i ∷ [])) (channels n)
    inside i h x m = at (memb-more x ws (channel n i) m)
      where
        at : (memb x ws ≡ true) ⊎ (x ≡ channel n i) → memb x (channels n) ≡ true
        at (inl k) = g.within x k
        at (inr e) = ap (has n) e ∙ has-at n i h

    grown-entry : (i j : ℕ) → i < size n → j < size n → memb (channel n i) ws ≡ false → memb (channel n j) ws ≡ true → Joined i j
        → Grown (ws ++ (channel n i ∷ []))
    grown-entry i j h l f m (inr q) = record {
      once = once_more ws (channel n i) g.once f;
      within = inside i h;
      top = g.top;
      low = g.low;
      there = memb-kept _ ws (channel n i) g.there;
      least = λ k o p. least k o (memb-more (channel n k) ws (channel n i) p);
      up = λ k o p. up k o (memb-more (channel n k) ws (channel n i) p);
    }
      where
        least : (k : ℕ) → k < size n → (memb (channel n k) ws ≡ true) ⊎ (channel n k ≡ channel n i) → g.top ≤ k
        least k o (inl p) = g.least k o p
        least k o (inr e) = omega (arith, G.once k i o h e, G.earlier i q.0 h, q.1, g.least j l m)

        up : (k : ℕ) → k < size n → (memb (channel n k) ws ≡ true) ⊎ (channel n k ≡ channel n i)
            → (k ≡ g.top) ⊎ ((0 < k) × (memb (channel n (parent n k)) (ws ++ (channel n i ∷ [])) ≡ true))
        up k o (inl p) = kept (g.up k o p)
          where
            kept : (k ≡ g.top) ⊎ ((0 < k) × (memb (channel n (parent n k)) ws ≡ true))
                → (k ≡ g.top) ⊎ ((0 < k) × (memb (channel n (parent n k)) (ws ++ (channel n i ∷ [])) ≡ true))
            kept (inl e) = inl e
            kept (inr r) = inr (r.0, memb-kept _ ws (channel n i) r.1)
        up k o (inr e) =
            let a = G.once k i o h e in
            inr (omega (arith, a, q.0), memb-kept _ ws (channel n i) (ap (λ (x : ℕ). memb (channel n x) ws) (ap (parent n) a ∙ q.1) ∙ m))
    grown-entry i j h l f m (inl q) = record {
      once = once_more ws (channel n i) g.once f;
      within = inside i h;
      top = i;
      low = h;
      there = memb-last ws (channel n i);
      least = λ k o p. least k o (memb-more (channel n k) ws (channel n i) p);
      up = λ k o p. up k o (memb-more (channel n k) ws (channel n i) p);
    }
      where
        highest : j ≡ g.top
        highest = top_of i j l f m q.1

        least : (k : ℕ) → k < size n → (memb (channel n k) ws ≡ true) ⊎ (channel n k ≡ channel n i) → i ≤ k
        least k o (inl p) = omega (arith, g.least k o p, highest, G.earlier j q.0 l, q.1)
        least k o (inr e) = omega (arith, G.once k i o h e)

        up : (k : ℕ) → k < size n → (memb (channel n k) ws ≡ true) ⊎ (channel n k ≡ channel n i)
            → (k ≡ i) ⊎ ((0 < k) × (memb (channel n (parent n k)) (ws ++ (channel n i ∷ [])) ≡ true))
        up k o (inl p) = kept (g.up k o p)
          where
            kept : (k ≡ g.top) ⊎ ((0 < k) × (memb (channel n (parent n k)) ws ≡ true))
                → (k ≡ i) ⊎ ((0 < k) × (memb (channel n (parent n k)) (ws ++ (channel n i ∷ [])) ≡ true))
            kept (inl e) =
                let a : k ≡ j = e ∙ sym highest in
                inr (omega (arith, a, q.0), ap (λ (x : ℕ). memb (channel n x) (ws ++ (channel n i ∷ []))) (ap (parent n) a ∙ q.1) ∙ memb-last ws (channel n i))
            kept (inr r) = inr (r.0, memb-kept _ ws (channel n i) r.1)
        up k o (inr e) = inl (G.once k i o h e)

    pub grown-more : (c d : ℕ) → Reached ws c d → Grown (ws ++ (c ∷ []))
    grown-more c d r =
        let h = edge-entries c d r.joint in
        let a = has-entry n c h.0 in
        let b = has-entry n d h.1 in
        subst (λ (x : ℕ). Grown (ws ++ (x ∷ []))) a.1
        (grown-entry (entry_of n c) (entry_of n d) a.0 b.0
        (ap (λ (x : ℕ). memb x ws) a.1 ∙ r.fresh) (ap (λ (x : ℕ). memb x ws) b.1 ∙ r.from) h.2)

    -- a channel that is not among ws has a joint to one of them at most
    pub grown-unique : (c d e : ℕ) → Reached ws c d → Reached ws c e → d ≡ e
    grown-unique c d e r t =
        let h = edge-entries c d r.joint in
        let k = edge-entries c e t.joint in
        let a = has-entry n c h.0 in
        let b = has-entry n d h.1 in
        let v = has-entry n e k.1 in
        sym b.1
        ∙ ap (channel n)
        (one (entry_of n c) (entry_of n d) (entry_of n e) a.0 b.0 v.0
        (ap (λ (x : ℕ). memb x ws) a.1 ∙ r.fresh)
        (ap (λ (x : ℕ). memb x ws) b.1 ∙ r.from)
        (ap (λ (x : ℕ). memb x ws) v.1 ∙ t.from)
        h.2 k.2)
        ∙ v.1
      where
        one : (i j k : ℕ) → i < size n → j < size n → k < size n → memb (channel n i) ws ≡ false → memb (channel n j) ws ≡ true
            → memb (channel n k) ws ≡ true → Joined i j → Joined i k → j ≡ k
        one i j k h l o f m p (inl q) (inl z) = top_of i j l f m q.1 ∙ sym (top_of i k o f p z.1)
        one i j k h l o f m p (inr q) (inr z) = sym q.1 ∙ z.1
        one i j k h l o f m p (inl q) (inr z) =
            absurd (omega (arith, top_of i j l f m q.1, g.least k o p, q.1, z.1, G.earlier j q.0 l, G.earlier i z.0 h))
        one i j k h l o f m p (inr q) (inl z) =
            absurd (omega (arith, top_of i k o f p z.1, g.least j l m, q.1, z.1, G.earlier k z.0 o, G.earlier i q.0 h))

    -- while a channel is missing, one of them has a joint to ws
    pub grown-next : length ws < size n → (c : ℕ) × (d : ℕ) × Reached ws c d
    grown-next l = from-top (dec_lt 0 g.top)
      where
        -- from a missing entry upwards, where the first entry is there
        climb : g.top ≡ 0 → (fuel i : ℕ) → i < fuel → i < size n → memb (channel n i) ws ≡ false → (c : ℕ) × (d : ℕ) × Reached ws c d
        climb z zero i h k f = absurd (omega arith)
        climb z (suc fuel) i h k f = at (memb (channel n (parent n i)) ws) refl (climb z fuel (parent n i))
          where
            late : 0 < i
            late = first (dec_lt 0 i)
              where
                first : Dec (0 < i) → 0 < i
                first (yes p) = p
                first (no p) =
                    let e : g.top ≡ i = omega arith in
                    absurd (true≢false (sym g.there ∙ ap (λ (x : ℕ). memb (channel n x) ws) e ∙ f))

            at : (b : Bool) → memb (channel n (parent n i)) ws ≡ b
                → (parent n i < fuel → parent n i < size n → memb (channel n (parent n i)) ws ≡ false → (c : ℕ) × (d : ℕ) × Reached ws c d)
                → (c : ℕ) × (d : ℕ) × Reached ws c d
            at true e rec = (channel n i, channel n (parent n i), record { fresh = f; from = e; joint = edge-up n i late k })
            at false e rec = let p = G.earlier i late k in rec (omega arith) (omega arith) e

        missing : (b : Bool) → any_below (size n) (λ i. not (memb (channel n i) ws)) ≡ b → (i : ℕ) × (i < size n) × (memb (channel n i) ws ≡ false)
        missing true e = let r = any_below-true (size n) _ e in (r.0, r.1, not-true _ r.2)
        missing false e = absurd (omega (arith, channels-length n, once-le (channels n) ws (index-once (channels n) (λ i j h k q. G.once i j (omega (arith, channels-length n)) (omega (arith, channels-length n)) q)) all))
          where
            all : Within (channels n) ws
            all x m =
                let p = has-entry n x m in
                ap (λ (y : ℕ). memb y ws) (sym p.1) ∙ held (memb (channel n (entry_of n x)) ws) refl p.0
              where
                held : (b : Bool) → memb (channel n (entry_of n x)) ws ≡ b → entry_of n x < size n → memb (channel n (entry_of n x)) ws ≡ true
                held true q h = q
                held false q h = absurd (true≢false (sym (true-any_below (size n) _ (entry_of n x) h (ap not q)) ∙ e))

        from-top : Dec (0 < g.top) → (c : ℕ) × (d : ℕ) × Reached ws c d
        from-top (yes z) =
            let p = G.earlier g.top z g.low in (
              channel n (parent n g.top),
              channel n g.top,
              record {
                fresh = cannot-pass _ (λ m. let q = g.least (parent n g.top) (omega arith) m in omega arith);
                from = g.there;
                joint = edge-down n g.top z g.low;
              },
            )
        from-top (no z) = let r = missing _ refl in climb (omega arith) (size n) r.0 r.1 r.1 r.2
