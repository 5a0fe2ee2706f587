-- The order of 02, M-101, leaves one listing: a net, a list of nets and a sheet in this order are their own canonical form. Assumes nothing.
-- tree-only: of a net. nets-only: of an accepted sheet's nets. standard-only: of a sheet, which is the form of all its relistings in its own mark.
use mathlib.Core.Path.{◌≡◌, refl, sym, subst, ap, ap₂, ◌∙◌}
use mathlib.Core.Logic.{inl, inr}
use Prim.Native.Nat.{ℕ, zero, suc, ◌≤◌, ◌<◌}
use native.Mathlib.Omega.{arith}
use native.Mathlib.Decide.{dec_lt}
use mathlib.Core.List.{List, [], ◌∷◌, ◌++◌, map}
use mathlib.Core.Bool.{Bool, true, false, true≢false}
use lib.ListN.{length, take}
use lib.Seq.{take-suc, get_or-take, length-take-le}
use borrow.Author.Tests.{lt-ltb}
use Rattle.bounded.specs.Lists.{memb, place}
use Rattle.bounded.proofs.BoundedLaws.{cannot-pass, lowest_below-is}
use Rattle.bounded.proofs.ListsLaws.{memb-place, memb-at}
use Rattle.grid.specs.Grid.{meet, max_channels}
use Rattle.net.specs.Net.{Net, size, channels, channel, parent, has, edge, no_parent}
use Rattle.net.specs.Nets.{net_in, In}
use Rattle.net.specs.Facts.{AcceptedNet}
use Rattle.net.proofs.NetsLaws.{in_place, place_in}
use Rattle.net.proofs.NetLaws.{channels-length, has-at}
use Rattle.encoding.specs.Encoding.{encode}
use Rattle.encoding.proofs.OwnLaws.{encode-own}
use Rattle.encoding.proofs.RecordLaws.{net-ext}
use Rattle.netlist.specs.Netlist.{WellFormed, mark_of, fabric_of, grid_of, width_of, nets}
use Rattle.netlist.proofs.NetlistLaws.{well_formed-readable}
use Rattle.rank.specs.Rank.{insert_net, rising}
use Rattle.rank.proofs.OrderLaws.{Rising}
use Rattle.netsearch.proofs.TrackLaws.{edge-up}
use Rattle.routing.specs.Equivalent.{Equivalent}
use Rattle.canonical.specs.Facts.{written_of, next_of}
use Rattle.canonical.specs.Canonical.{may_follow, next_channel, written, canonical_net, canonical_nets, canonical_in}
use Rattle.canonical.specs.Standard.{Follows, InTreeOrder, InCanonicalOrder, Bytes}
use Rattle.canonical.proofs.CanonicalLaws.{canonical-size, canonical-channel, canonical-root, canonical-earlier, canonical-once, next-home, reached-follows, follows-reached, later-parent}
use Rattle.canonical.proofs.FormLaws.{form-in-resp}
use Rattle.canonical.proofs.NetsLaws.{accepted, low, root}
use Rattle.canonical.proofs.TreeLaws.{Reached}

module _ (meet : ℕ → ℕ → Bool) (n : Net) (G : AcceptedNet meet n) (low : (c : ℕ) → has n c ≡ true → c < max_channels) (O : InTreeOrder n)
    (root : parent n 0 ≡ no_parent) where
  -- the channels of the first k entries
  abbrev start : ℕ → List ℕ
  start k = take k (channels n)

  start-length : (k : ℕ) → k ≤ size n → length (start k) ≡ k
  start-length k h = length-take-le k (channels n) (omega (arith, channels-length n))

  start-memb : (k i : ℕ) → k ≤ size n → i < k → memb (channel n i) (start k) ≡ true
  start-memb k i h l =
      ap (λ (x : ℕ). memb x (start k)) (sym (get_or-take k (channels n) i 0 l)) ∙ memb-at (start k) i (omega (arith, start-length k h))

  memb-start : (k c : ℕ) → k ≤ size n → memb c (start k) ≡ true → (i : ℕ) × (i < k) × (channel n i ≡ c)
  memb-start k c h m =
      let p = memb-place c (start k) m in
      let l : place c (start k) < k = omega (arith, start-length k h) in
      (place c (start k), l, sym (get_or-take k (channels n) (place c (start k)) 0 l) ∙ p.1)

  -- entry k is what is written next
  next-own : (k : ℕ) → k < size n → next_of n (start k) ≡ channel n k
  unfolding next_channel
  next-own k h = at (dec_lt 0 k)
    where
      reached : (c j : ℕ) → Follows n k c j → Reached meet n G (start k) c (channel n j)
      reached c j r = record {
        fresh = cannot-pass _ (λ m. let p = memb-start k c (omega arith) m in r.fresh p.0 p.1 p.2);
        from = start-memb k j (omega arith) r.before;
        joint = r.joint;
      }

      least : 0 < k → (c : ℕ) → c < max_channels → may_follow (has n) (edge n) (start k) c ≡ true → channel n k ≤ c
      least z c l e =
          let f = follows-reached meet n G low (start k) c (omega (arith, start-length k (omega arith))) e in
          let p = memb-start k f.0 (omega arith) f.1.from in
          O.lowest k c p.0 z h (record {
            fresh = λ i m q. true≢false (sym (start-memb k i (omega arith) m) ∙ ap (λ (x : ℕ). memb x (start k)) q ∙ f.1.fresh);
            before = p.1;
            joint = ap (edge n c) p.2 ∙ f.1.joint;
          })

      at : Dec (0 < k) → next_of n (start k) ≡ channel n k
      at (yes z) =
          lowest_below-is max_channels (may_follow (has n) (edge n) (start k)) (channel n k) (low (channel n k) (has-at n k h))
          (reached-follows meet n G low (start k) (channel n k) _ (reached (channel n k) (parent n k) (O.next k z h))) (least z)
      at (no z) =
          let e : k ≡ 0 = omega arith in
          ap (λ (j : ℕ). next_of n (start j)) e ∙ next-home meet n G low ∙ sym O.start ∙ ap (channel n) (sym e)

  first-own : (k : ℕ) → k ≤ size n → written_of n k ≡ start k
  unfolding written
  first-own zero h = refl
  first-own (suc k) h =
      ap (λ (ws : List ℕ). ws ++ (next_of n ws ∷ [])) (first-own k (omega arith))
      ∙ ap (λ (c : ℕ). start k ++ (c ∷ [])) (next-own k (omega arith))
      ∙ sym (take-suc (channels n) k 0 (omega (arith, channels-length n)))

  channel-own : (i : ℕ) → i < size n → channel (canonical_net n) i ≡ channel n i
  channel-own i h = canonical-channel n i h ∙ ap (next_of n) (first-own i (omega arith)) ∙ next-own i h

  parent-own : (i : ℕ) → i < size n → parent (canonical_net n) i ≡ parent n i
  parent-own i h = at (dec_lt 0 i)
    where
      at : Dec (0 < i) → parent (canonical_net n) i ≡ parent n i
      at (yes z) =
          let p = G.earlier i z h in
          let q = canonical-earlier meet n G low i z h in
          canonical-once meet n G low (parent (canonical_net n) i) (parent n i) (omega arith) (omega arith)
          (later-parent meet n G low (parent n i) i p h (ap₂ (edge n) (channel-own i h) (channel-own (parent n i) (omega arith)) ∙ edge-up n i z h))
      at (no z) =
          let e : i ≡ 0 = omega arith in
          ap (parent (canonical_net n)) e ∙ canonical-root n G.filled ∙ sym root ∙ ap (parent n) (sym e)

  pub tree-only : canonical_net n ≡ n
  unfolding canonical_net
  tree-only =
      net-ext (canonical_net n) n refl (canonical-size n)
      (λ i h. channel-own i (omega (arith, canonical-size n)))
      (λ i h. parent-own i (omega (arith, canonical-size n)))

-- ---- lists of nets

index-rising : (ns : List Net) → ((k l : ℕ) → k < l → l < length ns → (net_in ns k).number < (net_in ns l).number) → Rising ns
index-rising [] h = tt
index-rising (n ∷ ns) h = (
  (λ m i. let p = in_place ns m i in omega (arith, h 0 (suc p.0) (omega arith) (omega arith), ap (λ (x : Net). x.number) p.2)),
  index-rising ns (λ k l o m. h (suc k) (suc l) (omega arith) (omega arith)),
)

-- a rising list stays as it is
insert-first : (n : Net) (ms : List Net) → ((m : Net) → In m ms → n.number < m.number) → insert_net n ms ≡ n ∷ ms
unfolding insert_net
insert-first n [] h = refl
insert-first n (m ∷ ms) h = rw (lt-ltb n.number m.number (h m (inl refl)), insert_net)

rising-only : (ns : List Net) → Rising ns → rising ns ≡ ns
unfolding rising
rising-only [] r = refl
rising-only (n ∷ ns) r = ap (insert_net n) (rising-only ns r.1) ∙ insert-first n ns r.0

map-only : (f : Net → Net) (ns : List Net) → ((n : Net) → In n ns → f n ≡ n) → map f ns ≡ ns
map-only f [] h = refl
map-only f (n ∷ ns) h = ap₂ (λ (x : Net) (xs : List Net). x ∷ xs) (h n (inl refl)) (map-only f ns (λ m i. h m (inr i)))

-- ---- sheets

module _ (t : List ℕ) (A : WellFormed t) (O : InCanonicalOrder (nets t)) where
  net-only : (k : ℕ) → k < length (nets t) → canonical_net (net_in (nets t) k) ≡ net_in (nets t) k
  net-only k h =
      let n = net_in (nets t) k in
      let i = place_in (nets t) k h in
      tree-only (meet (grid_of t)) n (accepted t A n i) (low t A n i) (O.trees k h) (root t A n i)

  pub nets-only : canonical_nets t ≡ nets t
  nets-only =
      ap (map canonical_net) (rising-only (nets t) (index-rising (nets t) O.rising))
      ∙ map-only canonical_net (nets t) (λ n i. let p = in_place (nets t) n i in subst (λ (m : Net). canonical_net m ≡ m) p.2 (net-only p.0 p.1))

-- the order of 02, the nets and the mark fix the bytes: there is no other relisting of s in this order with its mark
pub standard-only : (s t : List ℕ) → Equivalent s t → Bytes t → InCanonicalOrder (nets t) → t ≡ canonical_in (mark_of t) s
unfolding canonical_in
standard-only s t E b O =
    let A = E.accepted2 in
    sym (encode-own t (well_formed-readable t A) b)
    ∙ ap (encode (mark_of t) (fabric_of t) (width_of t)) (sym (nets-only t A O))
    ∙ sym (form-in-resp (mark_of t) s t E)
