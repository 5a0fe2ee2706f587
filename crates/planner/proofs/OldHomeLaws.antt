-- The home tracks of an old assignment, net by net (OldHomes of specs/Planned.antt). Assumes nothing.
-- routed_count: no net, all nets, all in rising net number. A net at a place of the sheet: its old home track, and the count with it, where
-- it is unrouted and where it is routed.
use mathlib.Core.Path.{◌≡◌, refl, ap, ◌∙◌}
use Prim.Native.Nat.{ℕ, ◌+◌, ◌<◌}
use native.Mathlib.Omega.{arith}
use mathlib.Core.List.{List}
use mathlib.Core.Bool.{true, false, not}
use lib.ListN.{length, take, length-map}
use lib.Seq.{take-length}
use Rattle.bounded.proofs.ListsLaws.{lowest-in}
use Rattle.grid.specs.Grid.{meet}
use Rattle.net.specs.Net.{Entry, channels, entry_of, Net}
use Rattle.netlist.specs.Netlist.{WellFormed, grid_of, nets}
use Rattle.net.specs.Nets.{entry_count, net_in}
use Rattle.net.proofs.NetsLaws.{place_in}
use Rattle.netlist.proofs.SheetLaws.{well_formed-accepted}
use Rattle.rank.specs.Rank.{one_if, tally, rising}
use Rattle.rank.proofs.TallyLaws.{tally-more}
use Rattle.rank.proofs.OrderLaws.{rising-tally}
use Rattle.nettracks.specs.NetTracks.{unrouted}
use Rattle.assignment.specs.Assignment.{tracks_of, track_at}
use Rattle.planner.specs.Planned.{old_home}
use Rattle.planner.proofs.PlannedLaws.{old_home-routed, old_home-unrouted}
use Rattle.netsearch.specs.HomeTrack.{home, byte_of}
use Rattle.netsearch.specs.Refit.{is_routed, routed_count}
use Rattle.netsearch.proofs.LegalLaws.{byte_of-track_at}
use Rattle.netsearch.proofs.RoutedLaws.{is_routed-same}

-- ---- routed_count

module _ (old : ℕ → ℕ → ℕ) (ns : List Net) where
  pub routed_count-none : routed_count old (take 0 ns) ≡ 0
  unfolding routed_count tally
  routed_count-none = refl

  pub routed_count-all : routed_count old (take (length ns) ns) ≡ routed_count old ns
  routed_count-all = ap (routed_count old) (take-length ns)

  pub routed_count-rising : routed_count old (rising ns) ≡ routed_count old ns
  unfolding routed_count
  routed_count-rising = rising-tally (is_routed old) ns

  routed_count-more : (k : ℕ) → k < length ns → routed_count old (take (k + 1) ns) ≡ routed_count old (take k ns) + one_if (is_routed old (net_in ns k))
  unfolding routed_count
  routed_count-more k h = tally-more (is_routed old) ns k h

-- ---- the k-th of the nets ns, which stands at place j of the sheet

module _ (s old : List ℕ) (a : WellFormed s) (sized : length old ≡ entry_count (nets s)) (ns : List Net) (k j : ℕ) (h : k < length ns)
    (l : j < length (nets s)) (same : net_in ns k ≡ net_in (nets s) j) where
  -- the old byte of a net number and a channel
  abbrev old_byte : ℕ → ℕ → ℕ
  old_byte = byte_of (nets s) old

  -- a net is routed by its bytes as by its entries
  routed-same : is_routed old_byte (net_in ns k) ≡ not (unrouted (tracks_of (nets s) old j))
  routed-same = ap (is_routed old_byte) same ∙ is_routed-same (meet (grid_of s)) (nets s) (well_formed-accepted s a) old sized j l

  module _ (e : unrouted (tracks_of (nets s) old j) ≡ true) where
    pub home-unrouted : old_home old_byte (net_in ns k) ≡ 255
    home-unrouted = old_home-unrouted old_byte (net_in ns k) (routed-same ∙ ap not e)

    pub count-unrouted : routed_count old_byte (take (k + 1) ns) ≡ routed_count old_byte (take k ns)
    count-unrouted = omega (arith, routed_count-more old_byte ns k h, ap one_if (routed-same ∙ ap not e))

  module _ (e : unrouted (tracks_of (nets s) old j) ≡ false) where
    pub home-routed : old_home old_byte (net_in ns k) ≡ track_at (nets s) old j (entry_of (net_in (nets s) j) (home (net_in (nets s) j)))
    home-routed =
        let n = net_in (nets s) j in
        let A = well_formed-accepted s a in
        let f = (A.each n (place_in (nets s) j l)).filled in
        let z : 0 < length (channels n) = omega (arith, length-map n.entries (λ (x : Entry). x.channel)) in
        old_home-routed old_byte (net_in ns k) (routed-same ∙ ap not e)
        ∙ ap (λ (m : Net). old_byte m.number (home m)) same
        ∙ byte_of-track_at (meet (grid_of s)) (nets s) A old j (home n) l (lowest-in (channels n) z)

    pub count-routed : routed_count old_byte (take (k + 1) ns) ≡ routed_count old_byte (take k ns) + 1
    count-routed = omega (arith, routed_count-more old_byte ns k h, ap one_if (routed-same ∙ ap not e))
