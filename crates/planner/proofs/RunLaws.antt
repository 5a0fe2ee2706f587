-- The searches of some nets of a sheet run on their prepared tables (01 "Trials"). Assumes nothing.
-- well_formed-small, rising-small: nets of an accepted sheet fit the tables. in_range-real: number 11 leaves no home track 255. plain-search,
-- round-search: the search by the tables is 01's. plain_over, plain-within, refit-over, refit-within: the whole plain search and Refit's rounds, by whether
-- a channel is over capacity.
use mathlib.Core.Path.{◌≡◌, sym, subst, ap, ◌∙◌}
use mathlib.Core.Logic.{◌⊎◌, inl, inr, ◌≢◌}
use mathlib.Core.Bool.{not, true, false, true≢false}
use mathlib.Core.List.{List, []}
use Prim.Native.Nat.{ℕ, ◌≤◌, ◌<◌}
use native.Mathlib.Omega.{arith}
use borrow.Author.Tests.{ltb-true, not-false}
use lib.ListN.{length}
use Rattle.bounded.proofs.BoundedLaws.{either_true, every-at}
use Rattle.backtracking.specs.Search.{not_found, first_of, backtrack}
use Rattle.backtracking.proofs.AgreeLaws.{first-agree, backtrack-below}
use Rattle.grid.specs.Grid.{meet}
use Rattle.grid.proofs.GridLaws.{channel_count-le}
use Rattle.net.specs.Net.{Net, size, channel, entry_of}
use Rattle.net.proofs.NetLaws.{net_of-size, has-at, has-entry}
use Rattle.netlist.specs.Netlist.{WellFormed, grid_of, number_size_of, net_count, record_bytes, nets}
use Rattle.marks.specs.Marks.{marked_in}
use Rattle.net.specs.Nets.{entry_count, no_net, net_in, In}
use Rattle.net.proofs.NetsLaws.{in_place, place_in}
use Rattle.netlist.proofs.NetlistLaws.{nets-length, nets-at, record-whole, readable-nets, readable-allowed, well_formed-readable}
use Rattle.nettracks.specs.NetTracks.{in_range, skipped}
use Rattle.assignment.specs.Assignment.{tracks_of, every_net, track_out_of_range}
use Rattle.wires.specs.Wires.{tables_of}
use Rattle.tracksearch.specs.Plan.{SearchTables, search_tables, plan_fits}
use Rattle.planner.specs.Planned.{OldHomes}
use Rattle.planner.proofs.PlannedLaws.{Small, Prepares}
use Rattle.planner.proofs.FitsLaws.{HomesReal, AllNew, plan_fits-plain, plan_fits-round}
use Rattle.netlist.proofs.SheetLaws.{well_formed-accepted, well_formed-channel}
use Rattle.rank.specs.Facts.{rising_nets}
use Rattle.rank.specs.Rank.{rising}
use Rattle.rank.proofs.OrderLaws.{rising-in, rising-length}
use Rattle.assignment.specs.Board.{Board, with_broken}
use Rattle.netsearch.specs.HomeTrack.{home, byte_of}
use Rattle.netsearch.specs.declared.Search.{Search}
use Rattle.netsearch.specs.declared.Search.TheVariants.{Plain}
use Rattle.netsearch.specs.PlainSearch.{over_capacity, unless_over, fits, plain_search}
use Rattle.netsearch.specs.Refit.{is_routed, round_count, fits_in, refit_search}
use Rattle.netsearch.proofs.LegalLaws.{byte_of-track_at}
use Rattle.netsearch.proofs.RoutedLaws.{is_routed-same}
use Rattle.netsearch.proofs.TrackLaws.{has-home}

-- ---- some nets of an accepted sheet

module _ (s : List ℕ) (a : WellFormed s) (ns : List Net) (own : (k : ℕ) → k < length ns → In (net_in ns k) (nets s)) where
  size-le : (n : Net) → In n (nets s) → size n ≤ 32
  size-le n i =
      let p = in_place (nets s) n i in
      let l : p.0 < net_count s = omega (arith, nets-length s) in
      let e = ap size (sym p.2 ∙ nets-at s p.0 no_net l) ∙ net_of-size (number_size_of s) (record_bytes s p.0) in
      omega (arith, (record-whole (well_formed-readable s a) p.0 l).short)

  pub well_formed-small : length ns ≤ 64 → Small ns
  well_formed-small few = record {
    count = few;
    short = λ k h. size-le _ (own k h);
    channels = λ k i h l.
        let n = net_in ns k in
        let c = well_formed-channel s a n (own k h) (channel n i) (has-at n i l) in
        omega (arith, channel_count-le (readable-allowed (well_formed-readable s a)).sized);
    once = λ k i j h. ((well_formed-accepted s a).each (net_in ns k) (own k h)).once i j;
  }

  -- an old assignment that number 11 does not refuse
  module _ (w : ℕ) (old : List ℕ) (low : w ≤ 255) (sized : length old ≡ entry_count (nets s))
      (clear : track_out_of_range true w (nets s) old ≡ false) where
    real-at : (j : ℕ) → j < length (nets s) → is_routed (byte_of (nets s) old) (net_in (nets s) j) ≡ true
        → byte_of (nets s) old (net_in (nets s) j).number (home (net_in (nets s) j)) ≢ 255
    unfolding track_out_of_range every_net skipped in_range is_routed
    real-at j l r z = at (either_true (skipped true (tracks_of (nets s) old j)) _ (every-at (length (nets s)) _ (not-false _ clear) j l))
      where
        n : Net
        n = net_in (nets s) j

        at : (skipped true (tracks_of (nets s) old j) ≡ true) ⊎ (in_range w n (tracks_of (nets s) old j) ≡ true) → ⊥
        at (inl e) = true≢false (sym r ∙ is_routed-same (meet (grid_of s)) (nets s) (well_formed-accepted s a) old sized j l ∙ ap not e)
        at (inr e) =
            let A = well_formed-accepted s a in
            let m = has-home (meet (grid_of s)) n (A.each n (place_in (nets s) j l)) in
            let b = ltb-true _ w (every-at (size n) _ e (entry_of n (home n)) (has-entry n (home n) m).0) in
            omega (arith, byte_of-track_at (meet (grid_of s)) (nets s) A old j (home n) l m)

    pub in_range-real : HomesReal (byte_of (nets s) old) ns
    in_range-real k h =
        let p = in_place (nets s) (net_in ns k) (own k h) in
        subst (λ (n : Net). is_routed (byte_of (nets s) old) n ≡ true → byte_of (nets s) old n.number (home n) ≢ 255) p.2
        (real-at p.0 p.1)

-- ---- all nets of an accepted sheet, in rising net number

module _ (s : List ℕ) (a : WellFormed s) where
  pub rising-own : (k : ℕ) → k < length (rising_nets s) → In (net_in (rising_nets s) k) (nets s)
  rising-own k h = rising-in (net_in (rising_nets s) k) (nets s) (place_in (rising_nets s) k h)

  pub rising-small : Small (rising_nets s)
  rising-small =
      well_formed-small s a (rising_nets s) rising-own
      (omega (arith, rising-length (nets s), nets-length s, readable-nets (well_formed-readable s a)))

-- ---- the searches of the nets ns, where no channel is over capacity and the marks have the broken wires

module _ (board : Board) {ns : List Net} (p : SearchTables) (R : Prepares (board.partner p.nets.width) ns p.nets) (n : ℕ) (count : length ns ≡ n) where
  pub plain-search : AllNew n p.old
      → backtrack p.nets.width (plan_fits p) n [] ≡ backtrack p.nets.width (fits (with_broken board (marked_in p.marks)) p.nets.width ns) n []
  plain-search new =
      backtrack-below p.nets.width n _ _ (λ hs t b h l. plan_fits-plain board p R (λ k m. new k (omega arith)) hs t b (omega arith) l)

  pub round-search : (old : ℕ → ℕ → ℕ) → OldHomes old ns p.old → HomesReal old ns
      → backtrack p.nets.width (plan_fits p) n []
      ≡ backtrack p.nets.width (fits_in old (with_broken board (marked_in p.marks)) p.nets.width ns p.limit) n []
  round-search old had real =
      backtrack-below p.nets.width n _ _ (λ hs t b h l. plan_fits-round board p R old had real hs t b (omega arith) l)

-- ---- the whole searches of the nets ns, which they take in rising net number, by whether a channel is over capacity

module _ (board : Board) (w : ℕ) (ns : List Net) where
  module _ (over : over_capacity board w ns ≡ true) where
    pub plain_over : (h : Search) → plain_search h board w ns ≡ not_found 0
    unfolding plain_search unless_over
    plain_over h = rw over

    pub refit-over : (old : ℕ → ℕ → ℕ) → refit_search old board w ns ≡ not_found 0
    unfolding refit_search unless_over
    refit-over old = rw over

  module _ (marks : List ℕ) (within : over_capacity (with_broken board (marked_in marks)) w ns ≡ false) where
    -- P limit are the tables of a search where `limit` nets may move
    module _ (start chan maps homes : List ℕ) (R : Prepares (board.partner w) (rising ns) (tables_of start chan maps w)) where
      abbrev pub plan_at : ℕ → SearchTables
      plan_at limit = search_tables (tables_of start chan maps w) marks homes limit

      pub plain-within : (limit : ℕ) → AllNew (length ns) homes
          → plain_search Plain (with_broken board (marked_in marks)) w ns ≡ backtrack w (plan_fits (plan_at limit)) (length ns) []
      unfolding plain_search unless_over
      plain-within limit new = rw within (sym (plain-search board (plan_at limit) R (length ns) (rising-length ns) new))

      pub refit-within : (old : ℕ → ℕ → ℕ) → OldHomes old (rising ns) homes → HomesReal old (rising ns)
          → refit_search old (with_broken board (marked_in marks)) w ns
          ≡ first_of (λ d. backtrack w (plan_fits (plan_at d)) (length ns) []) (round_count old ns) 0
      unfolding refit_search unless_over
      refit-within old had real =
          rw within
          (first-agree _ (λ d. backtrack w (plan_fits (plan_at d)) (length ns) []) (round_count old ns) 0
          (λ d a b. sym (round-search board (plan_at d) R (length ns) (rising-length ns) old had real)))
