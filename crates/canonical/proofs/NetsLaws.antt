-- The nets of an accepted sheet in canonical form (specs/Canonical.antt, `canonical_nets`). Assumes nothing.
-- canonical_nets-same: they are the nets of the sheet. canonical_nets-resp: equivalent sheets have one list. canonical_nets-length, entries-kept: how
-- many. net-accepted, net-known, net-differing, net-rooted: each passes the tests. canonical_nets-rising: their numbers rise.
use mathlib.Core.Path.{◌≡◌, refl, sym, subst, ap, ap₂, ◌∙◌}
use mathlib.Core.Logic.{inl, inr}
use Prim.Native.Nat.{ℕ, zero, suc, ◌+◌, ◌<◌}
use native.Mathlib.Omega.{arith}
use native.Mathlib.Decide.{dec_lt}
use mathlib.Core.List.{List, [], ◌∷◌, map}
use mathlib.Core.Bool.{Bool, true}
use lib.ListN.{length, length-map}
use borrow.Author.Tests.{lt-ltb, eq-eqb}
use Rattle.bounded.proofs.BoundedLaws.{at_every, once-differ}
use Rattle.grid.specs.Grid.{meet, max_channels}
use Rattle.grid.proofs.GridLaws.{channel_count-le, meet-sym}
use Rattle.net.specs.Net.{Net, size, channel, parent, has, edge, no_parent, channels_known, channels_differ, parent_right, parents_right}
use Rattle.net.specs.Nets.{entry_count, net_in, In}
use Rattle.net.specs.Facts.{SameNet, AcceptedNet, Apart}
use Rattle.net.proofs.NetLaws.{parent_right-first, parent_right-earlier, parents_right-first, has-at}
use Rattle.net.proofs.NetsLaws.{in_place, place_in}
use Rattle.netlist.specs.Netlist.{WellFormed, grid_of, nets}
use Rattle.netlist.proofs.NetlistLaws.{well_formed-readable, readable-allowed}
use Rattle.netlist.proofs.SheetLaws.{well_formed-accepted, well_formed-channel}
use Rattle.rank.specs.Rank.{rising}
use Rattle.rank.proofs.OrderLaws.{rising-in, in-rising, rising-length, rising-rising, Pairs, rising-at}
use Rattle.netsearch.proofs.RelistLaws.{rising-pairs}
use Rattle.encoding.proofs.AcceptedLaws.{accepted-listable}
use Rattle.routing.specs.Equivalent.{SameNets, Equivalent}
use Rattle.routing.proofs.EquivalentLaws.{equivalent-relisted, accepted_left, accepted_right}
use Rattle.canonical.specs.Canonical.{canonical_net, canonical_nets}
use Rattle.canonical.proofs.CanonicalLaws.{canonical-size, canonical-root}
use Rattle.canonical.proofs.SameNetLaws.{canonical-net, canonical-accepted, canonical-same}

-- ---- lists of nets

in_map : (f : Net → Net) (x : Net) (ns : List Net) → In x ns → In (f x) (map f ns)
in_map f x [] h = h
in_map f x (n ∷ ns) (inl e) = inl (ap f e)
in_map f x (n ∷ ns) (inr h) = inr (in_map f x ns h)

map-in : (f : Net → Net) (y : Net) (ns : List Net) → In y (map f ns) → (x : Net) × In x ns × (y ≡ f x)
map-in f y [] h = absurd h
map-in f y (n ∷ ns) (inl e) = (n, inl refl, e)
map-in f y (n ∷ ns) (inr h) = let r = map-in f y ns h in (r.0, inr r.1, r.2)

pub net_in-map : (f : Net → Net) (ns : List Net) (k : ℕ) → k < length ns → net_in (map f ns) k ≡ f (net_in ns k)
net_in-map f [] k h = absurd (omega arith)
net_in-map f (n ∷ ns) zero h = refl
net_in-map f (n ∷ ns) (suc k) h = net_in-map f ns k (omega arith)

-- one net for each number
apart-one : (ns : List Net) → Apart ns → (n m : Net) → In n ns → In m ns → n.number ≡ m.number → n ≡ m
apart-one [] a n m h k e = absurd h
apart-one (x ∷ xs) a n m (inl h) (inl k) e = h ∙ sym k
apart-one (x ∷ xs) a n m (inl h) (inr k) e = absurd (a.0 m k (sym (ap (λ (y : Net). y.number) h) ∙ e))
apart-one (x ∷ xs) a n m (inr h) (inl k) e = absurd (a.0 n h (sym (ap (λ (y : Net). y.number) k) ∙ sym e))
apart-one (x ∷ xs) a n m (inr h) (inr k) e = apart-one xs a.1 n m h k e

-- ---- canonical_nets

module _ (s : List ℕ) (A : WellFormed s) where
  pub accepted : (n : Net) → In n (nets s) → AcceptedNet (meet (grid_of s)) n
  accepted = (well_formed-accepted s A).each

  pub low : (n : Net) → In n (nets s) → (c : ℕ) → has n c ≡ true → c < max_channels
  low n i c h = omega (arith, well_formed-channel s A n i c h, channel_count-le (readable-allowed (well_formed-readable s A)).sized)

  -- "the first entry's parent is 65535" (01)
  pub root : (n : Net) → In n (nets s) → parent n 0 ≡ no_parent
  root n i =
      let L = accepted-listable s A in
      let p = in_place (nets s) n i in
      let m = net_in (nets s) p.0 in
      ap (λ (x : Net). parent x 0) (sym p.2)
      ∙ parents_right-first (grid_of s) m (L.rooted p.0 p.1) (L.filled p.0 p.1)

  -- a net and its canonical form
  net-canonical : (n : Net) → In n (nets s) → SameNet n (canonical_net n)
  net-canonical n i = canonical-net (meet (grid_of s)) n (accepted n i) (low n i)

  in-canonical : (n : Net) → In n (nets s) → In (canonical_net n) (canonical_nets s)
  in-canonical n i = in_map canonical_net n (rising (nets s)) (in-rising n (nets s) i)

  canonical-in : (m : Net) → In m (canonical_nets s) → (n : Net) × In n (nets s) × (m ≡ canonical_net n)
  canonical-in m i = let r = map-in canonical_net m (rising (nets s)) i in (r.0, rising-in r.0 (nets s) r.1, r.2)

  pub canonical_nets-same : SameNets (nets s) (canonical_nets s)
  canonical_nets-same = record {
    there = λ n i. (canonical_net n, in-canonical n i, (net-canonical n i).number);
    back = λ m i. let r = canonical-in m i in (r.0, r.1, (net-canonical r.0 r.1).number ∙ ap (λ (x : Net). x.number) (sym r.2));
    channels = λ n m i j e c. same n m i j e (λ x. has x c) (λ x k. (net-canonical x k).channels c);
    edges = λ n m i j e c d. same n m i j e (λ x. edge x c d) (λ x k. (net-canonical x k).edges c d);
  }
    where
      same : (n m : Net) → In n (nets s) → In m (canonical_nets s) → n.number ≡ m.number → (f : Net → Bool)
          → ((x : Net) → In x (nets s) → f x ≡ f (canonical_net x)) → f n ≡ f m
      same n m i j e f h =
          let r = canonical-in m j in
          let q : n.number ≡ r.0.number = e ∙ ap (λ (x : Net). x.number) r.2 ∙ sym (net-canonical r.0 r.1).number in
          h n i ∙ ap (λ (x : Net). f (canonical_net x)) (apart-one (nets s) (well_formed-accepted s A).apart n r.0 i r.1 q) ∙ ap f (sym r.2)

-- equivalent sheets have one list
pub canonical_nets-resp : (s t : List ℕ) → Equivalent s t → canonical_nets s ≡ canonical_nets t
canonical_nets-resp s t E =
    equal (rising (nets s)) (rising (nets t))
    (rising-pairs Alike (λ n m a. a.0) (nets s) (nets t) (accepted_left s t E).apart (accepted_right s t E).apart (equivalent-relisted s t E)
    (λ n m i j S. (S.number, canonical-same (meet (grid_of s)) n m S ((accepted_left s t E).each n i) ((accepted_right s t E).each m j))))
  where
    Alike : Net → Net → Type 0
    Alike n m = (n.number ≡ m.number) × (canonical_net n ≡ canonical_net m)

    equal : (ns ms : List Net) → Pairs Alike ns ms → map canonical_net ns ≡ map canonical_net ms
    equal [] [] a = refl
    equal [] (m ∷ ms) a = absurd a
    equal (n ∷ ns) [] a = absurd a
    equal (n ∷ ns) (m ∷ ms) a = ap₂ (λ (x : Net) (xs : List Net). x ∷ xs) a.0.1 (equal ns ms a.1)

pub canonical_nets-length : (s : List ℕ) → length (canonical_nets s) ≡ length (nets s)
canonical_nets-length s = length-map (rising (nets s)) canonical_net ∙ rising-length (nets s)

-- a tree in canonical form has as many entries
pub entries-kept : (ns : List Net) → entry_count (map canonical_net ns) ≡ entry_count ns
unfolding entry_count
entries-kept [] = refl
entries-kept (n ∷ ns) = ap₂ ◌+◌ (canonical-size n) (entries-kept ns)

module _ (s : List ℕ) (A : WellFormed s) where
  abbrev ms : List Net
  ms = canonical_nets s

  -- what holds of the canonical form of each net holds of the net at each index
  pub each-canonical : (Q : Net → Type 0) → ((n : Net) → In n (nets s) → Q (canonical_net n)) → (k : ℕ) → k < length ms → Q (net_in ms k)
  each-canonical Q f k h =
      let r = canonical-in s A (net_in ms k) (place_in ms k h) in
      subst Q (sym r.2) (f r.0 r.1)

  -- what the sheet's tests ask of the nets at each index, of each net
  pub each-listed : (Q : Net → Type 0) → ((k : ℕ) → k < length (nets s) → Q (net_in (nets s) k)) → (n : Net) → In n (nets s) → Q n
  each-listed Q f n i = let r = in_place (nets s) n i in subst Q r.2 (f r.0 r.1)

  pub turn : (c d : ℕ) → meet (grid_of s) c d ≡ true → meet (grid_of s) d c ≡ true
  turn = meet-sym (grid_of s)

  pub net-accepted : (n : Net) → In n (nets s) → AcceptedNet (meet (grid_of s)) (canonical_net n)
  net-accepted n i = canonical-accepted (meet (grid_of s)) n (accepted s A n i) (low s A n i) turn

  pub net-known : (n : Net) → In n (nets s) → channels_known (grid_of s) (canonical_net n) ≡ true
  unfolding channels_known
  net-known n i =
      at_every (size (canonical_net n)) _ (λ j h.
      lt-ltb _ _ (well_formed-channel s A n i (channel (canonical_net n) j) ((net-canonical s A n i).channels _ ∙ has-at (canonical_net n) j h)))

  pub net-differing : (n : Net) → In n (nets s) → channels_differ (canonical_net n) ≡ true
  unfolding channels_differ
  net-differing n i = once-differ (size (canonical_net n)) (channel (canonical_net n)) (net-accepted n i).once

  pub net-rooted : (n : Net) → In n (nets s) → parents_right (grid_of s) (canonical_net n) ≡ true
  unfolding parents_right
  net-rooted n i = at_every (size m) _ (λ j h. at j h (dec_lt 0 j))
    where
      m : Net
      m = canonical_net n

      at : (j : ℕ) → j < size m → Dec (0 < j) → parent_right (grid_of s) m j ≡ true
      at j h (yes z) =
          parent_right-earlier (grid_of s) m j z ((net-accepted n i).earlier j z h) ∙ (net-accepted n i).meets j z h
      at j h (no z) =
          let e : j ≡ 0 = omega arith in
          parent_right-first (grid_of s) m j e
          ∙ eq-eqb (parent m j) no_parent (ap (parent m) e ∙ canonical-root n (accepted s A n i).filled)

  -- the nets' numbers rise
  number-at : (k : ℕ) → k < length ms → (net_in ms k).number ≡ (net_in (rising (nets s)) k).number
  unfolding canonical_net
  number-at k h = ap (λ (n : Net). n.number) (net_in-map canonical_net (rising (nets s)) k (omega (arith, length-map (rising (nets s)) canonical_net)))

  pub canonical_nets-rising : (k l : ℕ) → k < l → l < length ms → (net_in ms k).number < (net_in ms l).number
  canonical_nets-rising k l h o =
      let e = length-map (rising (nets s)) canonical_net in
      omega (
        arith,
        number-at k (omega arith),
        number-at l o,
        rising-at (rising (nets s)) (rising-rising (nets s) (well_formed-accepted s A).apart) k l h (omega arith),
      )
