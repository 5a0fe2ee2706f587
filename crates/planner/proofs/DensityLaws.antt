-- The loads of the channels, net by net (specs/Filled.antt, Counted of specs/Planned.antt). Assumes nothing.
-- density: no net, one net more, all nets, at most as many as there are. OneMore: no entry, one entry more. Counted: no net, one net more, all nets, in any order; whether a channel is over capacity; of an
-- accepted sheet.
use mathlib.Core.Path.{◌≡◌, refl, sym, ap, ap₂, ◌∙◌}
use Prim.Native.Nat.{ℕ, ◌+◌, ◌≤◌, ◌<◌}
use native.Mathlib.Omega.{arith}
use native.Mathlib.Decide.{ℕ_discrete}
use mathlib.Core.List.{List}
use mathlib.Core.Bool.{Bool, true, false, ◌||◌, or-false}
use lib.Dec.{ltb, eqb}
use lib.ListN.{length, get_or, take, set, replicate, length-replicate, get_or-replicate, length-map, length-take}
use lib.Seq.{get_or-set_same, get_or-set_other, take-length}
use borrow.Author.Tests.{eqb-true, eq-eqb, ne_eqb}
use Rattle.bounded.specs.Bounded.{any_below}
use Rattle.bounded.proofs.BoundedLaws.{same_test, cannot-pass, any_below-more, any_below-true, true-any_below, any_below-same}
use Rattle.bounded.proofs.ListsLaws.{memb-at}
use Rattle.grid.proofs.GridLaws.{channel_count-le}
use Rattle.net.specs.Net.{Net, Entry, size, channels, channel, has, entry_of}
use Rattle.net.specs.Nets.{net_in, In}
use Rattle.net.proofs.NetLaws.{has-entry}
use Rattle.netlist.specs.Netlist.{WellFormed, channels_of, nets}
use Rattle.netlist.proofs.NetlistLaws.{readable-allowed, well_formed-readable}
use Rattle.netlist.proofs.SheetLaws.{well_formed-accepted, well_formed-channel}
use Rattle.rank.specs.Rank.{one_if, tally, rising}
use Rattle.rank.proofs.TallyLaws.{tally-le, tally-more}
use Rattle.assignment.specs.Board.{Board}
use Rattle.rank.proofs.OrderLaws.{rising-tally}
use Rattle.netsearch.specs.PlainSearch.{density, whole_tracks, over_capacity}
use Rattle.planner.specs.Planned.{Counted}
use Rattle.planner.specs.Filled.{Countable, OneMore}

-- ---- density

pub density-none : (ns : List Net) (c : ℕ) → density (take 0 ns) c ≡ 0
unfolding density tally
density-none ns c = refl

pub density-more : (ns : List Net) (k c : ℕ) → k < length ns → density (take (k + 1) ns) c ≡ density (take k ns) c + one_if (has (net_in ns k) c)
unfolding density
density-more ns k c h = tally-more (λ n. has n c) ns k h

pub density-all : (ns : List Net) (c : ℕ) → density (take (length ns) ns) c ≡ density ns c
density-all ns c = ap (λ (l : List Net). density l c) (take-length ns)

pub density-le : (ns : List Net) (k c : ℕ) → density (take k ns) c ≤ k
unfolding density
density-le ns k c = omega (arith, tally-le (λ n. has n c) (take k ns), length-take k ns)

-- ---- OneMore

-- one of the first i channels of n is c
abbrev among_first : Net → ℕ → ℕ → Bool
among_first n i c = any_below i (λ j. eqb (channel n j) c)

among-all : (n : Net) (c : ℕ) → among_first n (size n) c ≡ has n c
among-all n c = same_test _ _ from to
  where
    from : among_first n (size n) c ≡ true → has n c ≡ true
    from h =
        let x = any_below-true (size n) (λ j. eqb (channel n j) c) h in
        ap (λ (d : ℕ). has n d) (sym (eqb-true _ _ x.2))
        ∙ memb-at (channels n) x.0 (omega (arith, length-map n.entries (λ (e : Entry). e.channel)))

    to : has n c ≡ true → among_first n (size n) c ≡ true
    to h = let e = has-entry n c h in true-any_below (size n) (λ j. eqb (channel n j) c) (entry_of n c) e.0 (eq-eqb _ _ e.1)

among-more : (n : Net) (i c : ℕ) → among_first n (i + 1) c ≡ (among_first n i c || eqb (channel n i) c)
among-more n i c = any_below-more i (λ j. eqb (channel n j) c)

module _ (n : Net) (before : List ℕ) where
  pub one_more-none : OneMore n 0 before before
  unfolding any_below
  one_more-none = record { loads = λ c h. omega arith }

  -- entry i is counted, after those before it
  module _ (C : Countable n before) (i : ℕ) (l : i < size n) (after : List ℕ) (k : length after ≡ length before) (f : OneMore n i before after) where
    -- the channel of entry i is none of those before it
    fresh : among_first n i (channel n i) ≡ false
    fresh = cannot-pass _ (λ h.
        let x = any_below-true i (λ j. eqb (channel n j) (channel n i)) h in
        omega (arith, C.once x.0 i (omega arith) l (eqb-true _ _ x.2)))

    -- so its load is as it was
    one_more-fresh : get_or after (channel n i) 0 ≡ get_or before (channel n i) 0
    one_more-fresh = omega (arith, f.loads (channel n i) (C.below i l), ap one_if fresh)

    -- it stands in the table, and can be raised
    pub one_more-low : (channel n i < length after) × (get_or after (channel n i) 0 < 64)
    one_more-low =
        let b = C.below i l in
        (omega (arith, C.whole), omega (arith, one_more-fresh, C.small (channel n i) b))

    met : among_first n (i + 1) (channel n i) ≡ true
    met = among-more n i (channel n i) ∙ ap₂ ◌||◌ fresh (eq-eqb (channel n i) (channel n i) refl)

    abbrev next : List ℕ
    next = set after (channel n i) (get_or after (channel n i) 0 + 1)

    pub one_more-more : OneMore n (i + 1) before next
    one_more-more = record { loads = λ c h. at c h (ℕ_discrete c (channel n i)) }
      where
        at : (c : ℕ) → c < 480 → Dec (c ≡ channel n i) → get_or next c 0 ≡ get_or before c 0 + one_if (among_first n (i + 1) c)
        at c h (yes e) =
            let g = get_or-set_same after (channel n i) (get_or after (channel n i) 0 + 1) 0 one_more-low.0 in
            rw e (omega (arith, g, one_more-fresh, ap one_if met))
        at c h (no e) =
            let o = ap (λ (x : Bool). among_first n i c || x) (ne_eqb (channel n i) c (λ q. e (sym q))) in
            get_or-set_other after (channel n i) c (get_or after (channel n i) 0 + 1) 0 e
            ∙ f.loads c h
            ∙ ap (λ (x : Bool). get_or before c 0 + one_if x) (sym (among-more n i c ∙ o ∙ or-false (among_first n i c)))

-- ---- Counted

-- the loads count the first k nets of ns
pub record CountedTo (ns : List Net) (k : ℕ) (load : List ℕ) : Type 0 where
  pub whole : length load ≡ 480
  pub loads : (c : ℕ) → c < 480 → get_or load c 0 ≡ density (take k ns) c

module _ (ns : List Net) where
  pub counted_none : CountedTo ns 0 (replicate 480 0)
  counted_none = record {
    whole = length-replicate {A = ℕ} 480 0;
    loads = λ c l. get_or-replicate {A = ℕ} 480 c 0 0 l ∙ sym (density-none ns c);
  }

  module _ (k : ℕ) (load : List ℕ) (f : CountedTo ns k load) where
    pub counted-small : k < 64 → (c : ℕ) → c < 480 → get_or load c 0 < 64
    counted-small l c x = omega (arith, f.loads c x, density-le ns k c)

    pub counted-more : k < length ns → (after : List ℕ) → length after ≡ length load
        → OneMore (net_in ns k) (size (net_in ns k)) load after → CountedTo ns (k + 1) after
    counted-more l after e g = record {
      whole = e ∙ f.whole;
      loads = λ c x. omega (arith, g.loads c x, f.loads c x, density-more ns k c l, ap one_if (among-all (net_in ns k) c));
    }

  pub counted-all : (load : List ℕ) → CountedTo ns (length ns) load → Counted ns load
  counted-all load f = record { each = λ c h. f.loads c h ∙ density-all ns c }

-- the order of the nets does not matter
pub counted-rising : {ns : List Net} {load : List ℕ} → Counted (rising ns) load → Counted ns load
unfolding density
counted-rising {ns} f = record { each = λ c h. f.each c h ∙ rising-tally (λ n. has n c) ns }

-- the loads tell whether a channel is over capacity
pub counted-over : (board : Board) (w : ℕ) → board.channels ≤ 480 → {load : List ℕ} (ns : List Net) → Counted ns load
    → any_below board.channels (λ c. ltb (whole_tracks board w c) (get_or load c 0)) ≡ over_capacity board w ns
unfolding over_capacity
counted-over board w h ns f = any_below-same board.channels _ _ (λ c l. ap (ltb (whole_tracks board w c)) (f.each c (omega arith)))

-- the nets of an accepted sheet
module _ (s : List ℕ) (a : WellFormed s) where
  pub channels-le : channels_of s ≤ 480
  channels-le = channel_count-le (readable-allowed (well_formed-readable s a)).sized

  -- the next of the nets ns can be counted, where it is one of the sheet's
  pub counted-countable : (ns : List Net) (k : ℕ) (load : List ℕ) → In (net_in ns k) (nets s) → CountedTo ns k load → k < 64
      → Countable (net_in ns k) load
  counted-countable ns k load j f l = record {
    whole = f.whole;
    small = counted-small ns k load f l;
    once = ((well_formed-accepted s a).each (net_in ns k) j).once;
    below = λ i m.
        let n = net_in ns k in
        let q : i < length (channels n) = omega (arith, length-map n.entries (λ (e : Entry). e.channel)) in
        let b = well_formed-channel s a n j (channel n i) (memb-at (channels n) i q) in
        omega (arith, channels-le);
  }
