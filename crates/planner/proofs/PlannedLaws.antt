-- The tables of the nets ns (specs/Planned.antt), and the wires held by them: as 01's plain search has them. Assumes nothing.
-- old_home: case by case. Started: where the entries end. Prepares: the tables of the nets, their sizes, channels and tracks.
-- planned-fits: a search can run on them. holds, held_by_nets: the wires held, by entries as by channels.
use mathlib.Core.Path.{◌≡◌, refl, sym, ap, ap₂, ◌∙◌}
use mathlib.Core.Bool.{Bool, true, false, not, ◌&&◌, ◌||◌}
use mathlib.Core.List.{List}
use Prim.Native.Nat.{ℕ, zero, suc, ◌+◌, ◌*◌, ◌≤◌, ◌<◌}
use native.Mathlib.Omega.{arith}
use native.Mathlib.Numerals.{add-one}
use borrow.Author.Tests.{eqb-true, eq-eqb}
use lib.Dec.{eqb}
use lib.ListN.{length, get_or, take, drop, length-map}
use lib.Seq.{get_or-take, get_or-drop}
use Rattle.bounded.specs.Bounded.{every}
use Rattle.bounded.proofs.BoundedLaws.{both_true, true-both, same_test, every-same, any_below-true, true-any_below}
use Rattle.bounded.proofs.ListsLaws.{every_in-every}
use Rattle.backtracking.proofs.AgreeLaws.{Below, below_at}
use Rattle.grid.specs.Grid.{wire}
use Rattle.net.specs.Net.{Entry, Net, size, channels, channel, has, entry_of}
use Rattle.marks.specs.Marks.{held_at, marked_in}
use Rattle.net.specs.Nets.{net_in}
use Rattle.net.proofs.NetLaws.{has-at, has-entry}
use Rattle.assignment.specs.Board.{Board, with_broken}
use Rattle.netsearch.specs.HomeTrack.{home, track}
use Rattle.netsearch.specs.PlainSearch.{held, available, fits}
use Rattle.netsearch.specs.Refit.{is_routed}
use Rattle.netsearch.proofs.PlaceLaws.{held-holds, holds-held, fits-channels}
use Rattle.wires.specs.Wires.{Tables, mapped_by, first, size_of, chan_of, track_of, holds, NetFits}
use Rattle.tracksearch.specs.Plan.{held_by_nets, NetsFit}
use Rattle.planner.specs.Planned.{Started, Planned, Mapped, old_home}

-- the nets fit the tables: as many and as long as an accepted sheet's
pub record Small (ns : List Net) : Type 0 where
  pub count : length ns ≤ 64
  pub short : (k : ℕ) → k < length ns → size (net_in ns k) ≤ 32
  pub channels : (k i : ℕ) → k < length ns → i < size (net_in ns k) → channel (net_in ns k) i < 480
  pub once : (k i j : ℕ) → k < length ns → i < size (net_in ns k) → j < size (net_in ns k)
      → channel (net_in ns k) i ≡ channel (net_in ns k) j → i ≡ j

-- ---- old_home

pub old_home-routed : (old : ℕ → ℕ → ℕ) (n : Net) → is_routed old n ≡ true → old_home old n ≡ old n.number (home n)
unfolding old_home
old_home-routed old n e = rw (e, old_home)

pub old_home-unrouted : (old : ℕ → ℕ → ℕ) (n : Net) → is_routed old n ≡ false → old_home old n ≡ 255
unfolding old_home
old_home-unrouted old n e = rw (e, old_home)

-- ---- Started

pub started-le : {ns : List Net} {start : List ℕ} → Started ns start → Small ns → (k : ℕ) → k ≤ length ns → get_or start k 0 ≤ 32 * k
started-le S small zero h = omega (arith, S.first)
started-le S small (suc k) h =
    let r = started-le S small k (omega arith) in
    omega (arith, rw add-one at (S.sizes k (omega arith)), small.short k (omega arith))

-- ---- the tables of the nets ns, where `partner c d i` is the track on channel d that track i on channel c is connected to

pub record Prepares (partner : ℕ → ℕ → ℕ → ℕ) (ns : List Net) (p : Tables) : Type 0 where
  pub planned : Planned ns p.start p.chan
  pub mapped : Mapped partner p.width ns p.start p.maps

module _ {partner : ℕ → ℕ → ℕ → ℕ} {ns : List Net} {p : Tables} (R : Prepares partner ns p) where
  module _ (k : ℕ) (h : k < length ns) where
    size_of-net : size_of p k ≡ size (net_in ns k)
    size_of-net = omega (arith, R.planned.started.sizes k h)

    chan_of-net : (i : ℕ) → i < size (net_in ns k) → chan_of p k i ≡ channel (net_in ns k) i
    chan_of-net i l = R.planned.chans k i h l

    pass-net : (i : ℕ) → i < size (net_in ns k)
        → get_or (take (size (net_in ns k)) (drop (first p k) p.maps)) i 0 ≡ get_or p.maps (first p k + i) 0
    pass-net i l = get_or-take (size (net_in ns k)) (drop (first p k) p.maps) i 0 l ∙ get_or-drop (first p k) p.maps i 0

    track_of-net : (i t : ℕ) → i < size (net_in ns k) → t < p.width → track_of p k i t ≡ track partner (net_in ns k) t (channel (net_in ns k) i)
    unfolding track_of
    track_of-net i t l m = ap (λ (code : ℕ). mapped_by p.width code t) (sym (pass-net i l)) ∙ (R.mapped k h).same i t l m

    -- a net holds a wire by its entries as by its channels
    holds-net : (t c x : ℕ) → t < p.width → holds p k t c x ≡ (has (net_in ns k) c && eqb (track partner (net_in ns k) t c) x)
    unfolding holds
    holds-net t c x m =
        same_test _ _
        (λ e.
        let r = any_below-true (size_of p k) _ e in
        let l : r.0 < size n = omega (arith, size_of-net) in
        let b = both_true (eqb (chan_of p k r.0) c) _ r.2 in
        let q = sym (chan_of-net r.0 l) ∙ eqb-true _ _ b.0 in
        true-both _ _ (ap (has n) (sym q) ∙ has-at n r.0 l)
        (eq-eqb _ _ (ap (track partner n t) (sym q) ∙ sym (track_of-net r.0 t l m) ∙ eqb-true _ _ b.1)))
        (λ e.
        let b = both_true (has n c) _ e in
        let r = has-entry n c b.0 in
        true-any_below (size_of p k) _ (entry_of n c) (omega (arith, size_of-net))
        (true-both _ _ (eq-eqb _ _ (chan_of-net (entry_of n c) r.0 ∙ r.1))
        (eq-eqb _ _ (track_of-net (entry_of n c) t r.0 m ∙ ap (track partner n t) r.1 ∙ eqb-true _ _ b.1))))
      where
        n : Net
        n = net_in ns k

    net-fits : Small ns → NetFits p k
    net-fits small = record {
      rises = omega (arith, R.planned.started.sizes k h);
      within = omega (arith, started-le R.planned.started small (k + 1) (omega arith), small.count);
      channels = λ i l. rw (chan_of-net i (inside i l)) (small.channels k i h (inside i l));
      differ = λ i j l m e.
          small.once k i j h (inside i l) (inside j m) (sym (chan_of-net i (inside i l)) ∙ e ∙ chan_of-net j (inside j m));
      maps = λ i l.
          let e = pass-net i (inside i l) in
          (rw e at ((R.mapped k h).code i (inside i l)), rw e at ((R.mapped k h).low i (inside i l)));
    }
      where
        inside : (i : ℕ) → i < size_of p k → i < size (net_in ns k)
        inside i l = omega (arith, size_of-net)

  -- a search can run on the tables
  pub planned-fits : Small ns → p.width ≤ 32 → NetsFit p (length ns)
  planned-fits small w = record { count = small.count; width = w; each = λ k h. net-fits k h small }

  -- ---- held_by_nets

  held_by-held : (hs : List ℕ) (c x : ℕ) → Below p.width hs → length hs ≤ length ns → held_by_nets p hs c x ≡ held partner ns hs (wire c x)
  unfolding held_by_nets
  held_by-held hs c x b h =
      same_test _ _
      (λ e.
      let r = any_below-true (length hs) _ e in
      let a = both_true (has (net_in ns r.0) c) _ (sym (at r.0 r.1) ∙ r.2) in
      holds-held partner ns hs c x r.0 (omega (arith, r.1)) (r.1, a.0, eqb-true _ _ a.1))
      (λ e.
      let r = held-holds partner ns hs c x e in
      true-any_below (length hs) _ r.0 r.1.0 (at r.0 r.1.0 ∙ true-both _ _ r.1.1 (eq-eqb _ _ r.1.2)))
    where
      at : (k : ℕ) → k < length hs → holds p k (get_or hs k 0) c x ≡ (has (net_in ns k) c && eqb (track partner (net_in ns k) (get_or hs k 0) c) x)
      at k l = holds-net k (omega arith) (get_or hs k 0) c x (below_at p.width hs b k l)

-- on a board with these partners
module _ (board : Board) {ns : List Net} {p : Tables} (R : Prepares (board.partner p.width) ns p) where
  -- the wires of a track are neither marked nor held by other nets, by the tables as by 01, where the marks m have the broken wires
  pub free-fits : (m hs : List ℕ) (t : ℕ) → Below p.width hs → length hs < length ns → t < p.width
      → every (size_of p (length hs)) (λ i.
      let c = chan_of p (length hs) i in
      let x = track_of p (length hs) i t in
      not (held_at m c x || held_by_nets p hs c x)) ≡ fits (with_broken board (marked_in m)) p.width ns hs t
  free-fits m hs t b h l =
      every-same (size_of p k) _ (λ i. wire_free (channel n i))
      (λ i j.
      let q : i < size n = omega (arith, size_of-net R k h) in
      ap₂ (λ (c x : ℕ). not (held_at m c x || held_by_nets p hs c x)) (chan_of-net R k h i q) (track_of-net R k h i t q l)
      ∙ ap (λ (y : Bool). not (held_at m (channel n i) (track (board.partner p.width) n t (channel n i)) || y)) (held_by-held R hs _ _ b (omega arith))
      ∙ not-or (held_at m (channel n i) (track (board.partner p.width) n t (channel n i))) _)
      ∙ ap (λ (j : ℕ). every j (λ i. wire_free (channel n i))) (size_of-net R k h ∙ sym (length-map n.entries (λ (e : Entry). e.channel)))
      ∙ sym (every_in-every wire_free (channels n))
      ∙ sym (fits-channels (with_broken board (marked_in m)) p.width ns hs t)
    where
      k : ℕ
      k = length hs

      n : Net
      n = net_in ns k

      wire_free : ℕ → Bool
      wire_free c = available (with_broken board (marked_in m)) p.width ns hs (wire c (track (board.partner p.width) n t c))

      not-or : (a b : Bool) → not (a || b) ≡ (not a && not b)
      not-or true b = refl
      not-or false b = refl
