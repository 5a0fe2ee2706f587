-- A net with its tree in canonical form (specs/Canonical.antt, `canonical_net`). Assumes nothing.
-- Of any net: its size, its channels and its parents. Of an accepted net: next-home, next-reached, next-lowest: what is written next;
-- written-grown: the first entries hang together; canonical-has, canonical-once: its channels; parent-reached, later-parent: its parents.
use mathlib.Core.Path.{◌≡◌, refl, sym, subst, ap, ap₂, ◌∙◌}
use mathlib.Core.Logic.{◌⊎◌, inl, inr}
use Prim.Native.Nat.{ℕ, zero, suc, ◌+◌, ◌≤◌, ◌<◌}
use native.Mathlib.Omega.{arith}
use mathlib.Core.List.{List, [], ◌∷◌, ◌++◌, map, map-append}
use mathlib.Core.Bool.{Bool, true, false, not, true≢false}
use lib.ListN.{length, get_or}
use borrow.Author.Tests.{not-true}
use Rattle.bounded.specs.Bounded.{build}
use Rattle.bounded.specs.Lists.{memb, any_in, first_in}
use Rattle.bounded.proofs.BoundedLaws.{both_true, true-both, same_test, build-length, build-at, lowest_below-passes, lowest_below-le, lowest_below-is}
use Rattle.bounded.proofs.ListsLaws.{map_at, memb-place, memb-at, any_in-true, true-any_in, first_in-passes, lowest-le}
use Rattle.bounded.proofs.OnceLaws.{once-index, once-all}
use Rattle.grid.specs.Grid.{max_channels}
use Rattle.net.specs.Net.{Entry, Net, size, channels, channel, parent, has, edge, no_parent, entry_of}
use Rattle.net.specs.Facts.{AcceptedNet}
use Rattle.net.proofs.NetLaws.{channels-length, has-entry}
use Rattle.netsearch.specs.HomeTrack.{home}
use Rattle.netsearch.proofs.TrackLaws.{has-home, edge-has}
use Rattle.canonical.specs.Facts.{written_of, next_of}
use Rattle.canonical.specs.Canonical.{may_follow, next_channel, written, parent_among, entry_next, canonical_net}
use Rattle.canonical.proofs.WrittenLaws.{memb-more, memb-last, written-length, written_at, may_follow-first, may_follow-later}
use Rattle.canonical.proofs.TreeLaws.{Grown, Reached, grown-more, grown-unique, grown-next}

-- ---- any net

module _ (n : Net) where
  pub canonical-size : size (canonical_net n) ≡ size n
  unfolding canonical_net
  canonical-size = build-length (size n) _

  entries-channels : (k : ℕ) → map (λ (e : Entry). e.channel) (build k (entry_next (has n) (edge n))) ≡ written_of n k
  unfolding build written entry_next
  entries-channels zero = refl
  entries-channels (suc k) = map-append (λ (e : Entry). e.channel) (build k _) (_ ∷ []) ∙ ap (λ (ws : List ℕ). ws ++ (next_of n (written_of n k) ∷ [])) (entries-channels k)

  canonical-channels : channels (canonical_net n) ≡ written_of n (size n)
  unfolding canonical_net
  canonical-channels = entries-channels (size n)

  pub canonical-channel : (i : ℕ) → i < size n → channel (canonical_net n) i ≡ next_of n (written_of n i)
  canonical-channel i h = ap (λ (ws : List ℕ). get_or ws i 0) canonical-channels ∙ written_at (has n) (edge n) (size n) i h

  pub canonical-parent : (i : ℕ) → i < size n → parent (canonical_net n) i ≡ parent_among (edge n) (written_of n i) (next_of n (written_of n i))
  unfolding canonical_net entry_next
  canonical-parent i h =
      map_at (λ (e : Entry). e.parent) (build (size n) _) (record { channel = 0; parent = 0 }) i (omega (arith, build-length (size n) (entry_next (has n) (edge n))))
      ∙ ap (λ (e : Entry). e.parent) (build-at (size n) (entry_next (has n) (edge n)) i _ h)

  -- "the first entry's parent is 65535"
  pub canonical-root : 0 < size n → parent (canonical_net n) 0 ≡ no_parent
  unfolding written parent_among any_in
  canonical-root h = canonical-parent 0 h

-- ---- an accepted net

memb-filled : (x : ℕ) (ws : List ℕ) → memb x ws ≡ true → 0 < length ws
memb-filled x ws m = let p = memb-place x ws m in omega arith

module _ (meet : ℕ → ℕ → Bool) (n : Net) (G : AcceptedNet meet n) (low : (c : ℕ) → has n c ≡ true → c < max_channels) where
  -- "each tree starts at the net's home"
  pub next-home : next_of n [] ≡ home n
  unfolding next_channel
  next-home =
      lowest_below-is max_channels _ (home n) (low (home n) (has-home meet n G)) (may_follow-first (has n) (edge n) (home n) ∙ has-home meet n G)
      (λ c h e. lowest-le (channels n) c (sym (may_follow-first (has n) (edge n) c) ∙ e))

  -- a channel that is reached may follow, and the other way round
  pub reached-follows : (ws : List ℕ) (c d : ℕ) → Reached meet n G ws c d → may_follow (has n) (edge n) ws c ≡ true
  reached-follows ws c d r =
      may_follow-later (has n) (edge n) ws c (memb-filled d ws r.from)
      ∙ true-both (not (memb c ws)) _ (ap not r.fresh) (true-any_in (edge n c) ws d r.from r.joint)

  pub follows-reached : (ws : List ℕ) (c : ℕ) → 0 < length ws → may_follow (has n) (edge n) ws c ≡ true → (d : ℕ) × Reached meet n G ws c d
  follows-reached ws c z e =
      let b = both_true (not (memb c ws)) (any_in (edge n c) ws) (sym (may_follow-later (has n) (edge n) ws c z) ∙ e) in
      let a = any_in-true (edge n c) ws b.1 in
      (a.0, record { fresh = not-true _ b.0; from = a.1; joint = a.2 })

  reached-low : (ws : List ℕ) (c d : ℕ) → Reached meet n G ws c d → c < max_channels
  reached-low ws c d r = low c (edge-has meet n G c d r.joint).0

  -- "Each next entry is the lowest-numbered channel not yet written that has a joint to a written one"
  next-reached : (ws : List ℕ) → Grown meet n G ws → length ws < size n → (d : ℕ) × Reached meet n G ws (next_of n ws) d
  unfolding next_channel
  next-reached ws g l =
      let r = grown-next meet n G ws g l in
      follows-reached ws (next_of n ws) (memb-filled _ ws g.there)
      (lowest_below-passes max_channels (may_follow (has n) (edge n) ws) r.0 (reached-low ws r.0 r.1 r.2) (reached-follows ws r.0 r.1 r.2))

  pub next-lowest : (ws : List ℕ) (c d : ℕ) → Reached meet n G ws c d → next_of n ws ≤ c
  unfolding next_channel
  next-lowest ws c d r = lowest_below-le max_channels (may_follow (has n) (edge n) ws) c (reached-low ws c d r) (reached-follows ws c d r)

  grown-one : (c : ℕ) → has n c ≡ true → Grown meet n G (c ∷ [])
  unfolding memb
  grown-one c h = record {
    once = (refl, tt);
    within = λ x m. ap (has n) (only x m) ∙ h;
    top = entry_of n c;
    low = (has-entry n c h).0;
    there = ap (λ (x : ℕ). memb x (c ∷ [])) (has-entry n c h).1 ∙ memb-last [] c;
    least = λ i l m. let e = at i l m in omega arith;
    up = λ i l m. inl (at i l m);
  }
    where
      only : (x : ℕ) → memb x (c ∷ []) ≡ true → x ≡ c
      only x m = pick (memb-more x [] c m)
        where
          pick : (memb x [] ≡ true) ⊎ (x ≡ c) → x ≡ c
          pick (inl e) = absurd (true≢false (sym e))
          pick (inr e) = e

      at : (i : ℕ) → i < size n → memb (channel n i) (c ∷ []) ≡ true → i ≡ entry_of n c
      at i l m = let e = has-entry n c h in G.once i (entry_of n c) l e.0 (only (channel n i) m ∙ sym e.1)

  -- the first k hang together
  written-grown : (k : ℕ) → k < size n → Grown meet n G (written_of n (suc k))
  unfolding written
  written-grown zero h = subst (λ (c : ℕ). Grown meet n G (c ∷ [])) (sym next-home) (grown-one (home n) (has-home meet n G))
  written-grown (suc k) h =
      let g = written-grown k (omega arith) in
      let r = next-reached (written_of n (suc k)) g (omega (arith, written-length (has n) (edge n) (suc k))) in
      grown-more meet n G (written_of n (suc k)) g (next_of n (written_of n (suc k))) r.0 r.1

  -- entry i, which is not the first, has a joint to a written one
  pub entry-reached : (i : ℕ) → 0 < i → i < size n → Grown meet n G (written_of n i) × ((d : ℕ) × Reached meet n G (written_of n i) (next_of n (written_of n i)) d)
  entry-reached zero z h = absurd (omega arith)
  entry-reached (suc i) z h =
      let g = written-grown i (omega arith) in
      (g, next-reached (written_of n (suc i)) g (omega (arith, written-length (has n) (edge n) (suc i))))

  -- all channels are written
  all_grown : Grown meet n G (written_of n (size n))
  all_grown = at (size n) refl G.filled
    where
      at : (k : ℕ) → size n ≡ k → 0 < k → Grown meet n G (written_of n k)
      at zero e z = absurd (omega arith)
      at (suc k) e z = written-grown k (omega arith)

  pub canonical-has : (c : ℕ) → has (canonical_net n) c ≡ has n c
  canonical-has c =
      ap (memb c) (canonical-channels n)
      ∙ same_test _ _ (all_grown.within c)
      (once-all (written_of n (size n)) (channels n) all_grown.once all_grown.within
      (omega (arith, channels-length n, written-length (has n) (edge n) (size n))) c)

  -- "and that one is its parent": the parent of entry i is the one among the written that it has a joint to
  pub parent-reached : (i : ℕ) → 0 < i → i < size n
      → (parent (canonical_net n) i < i) × Reached meet n G (written_of n i) (channel (canonical_net n) i) (channel (canonical_net n) (parent (canonical_net n) i))
  unfolding parent_among
  parent-reached i z h =
      let r = (entry-reached i z h).1 in
      let c = next_of n (written_of n i) in
      let any : any_in (edge n c) (written_of n i) ≡ true = true-any_in (edge n c) (written_of n i) r.0 r.1.from r.1.joint in
      let p : parent (canonical_net n) i ≡ first_in (edge n c) (written_of n i) =
      canonical-parent n i h ∙ ap (λ (b : Bool). elim b [ true ↦ first_in (edge n c) (written_of n i) | false ↦ no_parent ]) any in
      let f = first_in-passes (edge n c) 0 (written_of n i) any in
      let l : parent (canonical_net n) i < i = omega (arith, written-length (has n) (edge n) i) in
      let e : channel (canonical_net n) (parent (canonical_net n) i) ≡ get_or (written_of n i) (first_in (edge n c) (written_of n i)) 0 =
      canonical-channel n (parent (canonical_net n) i) (omega arith)
      ∙ sym (written_at (has n) (edge n) i (parent (canonical_net n) i) l)
      ∙ ap (λ (k : ℕ). get_or (written_of n i) k 0) p in (
        l,
        record {
          fresh = ap (λ (x : ℕ). memb x (written_of n i)) (canonical-channel n i h) ∙ r.1.fresh;
          from = ap (λ (x : ℕ). memb x (written_of n i)) e ∙ memb-at (written_of n i) (first_in (edge n c) (written_of n i)) f.0;
          joint = ap₂ (edge n) (canonical-channel n i h) e ∙ f.1;
        },
      )

  pub canonical-earlier : (i : ℕ) → 0 < i → i < size n → parent (canonical_net n) i < i
  canonical-earlier i z h = (parent-reached i z h).0

  -- the channel of an entry is among those that are written by then
  pub channel-written : (i k : ℕ) → i < k → k ≤ size n → memb (channel (canonical_net n) i) (written_of n k) ≡ true
  channel-written i k l h =
      ap (λ (x : ℕ). memb x (written_of n k)) (canonical-channel n i (omega arith) ∙ sym (written_at (has n) (edge n) k i l))
      ∙ memb-at (written_of n k) i (omega (arith, written-length (has n) (edge n) k))

  -- a later entry with a joint to an earlier one has it for its parent
  pub later-parent : (a b : ℕ) → a < b → b < size n → edge n (channel (canonical_net n) b) (channel (canonical_net n) a) ≡ true
      → channel (canonical_net n) (parent (canonical_net n) b) ≡ channel (canonical_net n) a
  later-parent a b l h e =
      let r = parent-reached b (omega arith) h in
      grown-unique meet n G (written_of n b) (entry-reached b (omega arith) h).0 (channel (canonical_net n) b) _ _ r.1
      (record { fresh = r.1.fresh; from = channel-written a b l (omega arith); joint = e })

  pub canonical-once : (i j : ℕ) → i < size n → j < size n → channel (canonical_net n) i ≡ channel (canonical_net n) j → i ≡ j
  canonical-once i j h l e =
      once-index (written_of n (size n)) all_grown.once i j
      (omega (arith, written-length (has n) (edge n) (size n)))
      (omega (arith, written-length (has n) (edge n) (size n)))
      (sym (ap (λ (ws : List ℕ). get_or ws i 0) (canonical-channels n)) ∙ e ∙ ap (λ (ws : List ℕ). get_or ws j 0) (canonical-channels n))
