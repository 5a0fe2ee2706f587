-- The nets that the writer writes, one by one. Assumes nothing.
-- InTables: of the net at each place of the sheet; its track maps are track maps at the width, and its tracks are its bytes.
-- NetsWritten: no net, room for one more, one net more, all nets.
use mathlib.Core.Path.{◌≡◌, refl, sym, ap, ◌∙◌}
use Prim.Native.Nat.{ℕ, ◌+◌, ◌-◌, ◌≤◌, ◌<◌}
use native.Mathlib.Omega.{arith}
use mathlib.Core.List.{List, ◌++◌}
use lib.ListN.{length, get_or, take, drop, length-map, length-drop}
use lib.Seq.{take_all, length-take-le, get_or-take}
use Rattle.net.specs.Net.{Net, size}
use Rattle.net.specs.Nets.{entry_count, net_in}
use Rattle.net.specs.Facts.{Apart}
use Rattle.netlist.specs.declared.Sheet.{Sheet}
use Rattle.netlist.specs.Netlist.{nets, connected_on}
use Rattle.netlist.proofs.SheetLaws.{well_formed-accepted}
use Rattle.rank.specs.Rank.{rising}
use Rattle.rank.specs.Facts.{rising_nets}
use Rattle.rank.proofs.OrderLaws.{rising-length, rising-rising}
use Rattle.rank.proofs.RankLaws.{rank_at, rank_at-rising}
use Rattle.assignment.specs.Assignment.{first_byte}
use Rattle.assignment.proofs.AssignmentLaws.{first_byte-none, first_byte-more, first_byte-le}
use Rattle.netsearch.specs.HomeTrack.{home_track_of, bytes_from, assignment_from}
use Rattle.netsearch.proofs.PlaceLaws.{home_track_of-at}
use Rattle.routing.specs.Outcomes.{overwrite}
use Rattle.routing.proofs.OverwriteLaws.{PartsWritten, parts_none, parts_more}
use Rattle.trackmaps.specs.TrackMaps.{MapsAre}
use Rattle.planner.specs.Planned.{Started}
use Rattle.planner.proofs.PlacesLaws.{sheet-count}
use Rattle.planner.proofs.PlannedLaws.{Small, started-le}
use Rattle.planner.proofs.RunLaws.{rising-small}
use Rattle.writer.specs.Written.{Codes, tracks_from, Writable}
use Rattle.writer.proofs.WrittenLaws.{tracks_from-tracks, net_bytes, bytes_from-more}

-- ---- InTables

-- the track maps of the net of rank k
abbrev pub maps_of : List ℕ → List ℕ → ℕ → List ℕ
maps_of start maps k = take (get_or start (k + 1) 0 - get_or start k 0) (drop (get_or start k 0) maps)

-- the net n in the tables, where its rank is k and the net number x has the home track f x
pub record InTables (partner : ℕ → ℕ → ℕ → ℕ) (w : ℕ) (f : ℕ → ℕ) (n : Net) (start maps homes : List ℕ) (k : ℕ) : Type 0 where
  pub ends : get_or start (k + 1) 0 ≡ get_or start k 0 + size n
  pub within : get_or start (k + 1) 0 ≤ 2048
  pub whole : length (maps_of start maps k) ≡ size n
  pub codes : MapsAre partner w n (maps_of start maps k)
  pub home : f n.number ≡ get_or homes k 0
  pub low : get_or homes k 0 < w

-- the net at place j of the sheet
module _ (sheet : Sheet) where
  abbrev s : List ℕ
  s = sheet.netlist.bytes.now

  abbrev m : ℕ
  m = sheet.netlist.trailer.nets

  pub in_tables : {w : ℕ} {start maps homes : List ℕ} → Started (rising_nets s) start → Writable s w start maps m homes → length maps ≡ 2048
      → {j k : ℕ} → j < m → k ≡ rank_at (nets s) j
      → InTables (connected_on s w) w (home_track_of (rising_nets s) (take m homes)) (net_in (nets s) j) start maps homes k
  in_tables {w} {start} {maps} {homes} S W x {j} {k} h q = record {
    ends = ends;
    within = within;
    whole =
        ap length part
        ∙ length-take-le (size n) (drop (get_or start k 0) maps) (omega (arith, ends, within, length-drop (get_or start k 0) maps));
    codes = rw (part, ← same) (W.mapped k l);
    home =
        ap (λ (i : Net). home_track_of (rising_nets s) (take m homes) i.number) (sym same)
        ∙ home_track_of-at (rising_nets s) (rising-rising (nets s) apart) (take m homes) k l
        (length-take-le m homes W.long ∙ sym count)
        ∙ get_or-take m homes k 0 (omega (arith, l, count));
    low = W.below k (omega (arith, l, count));
  }
    where
      n : Net
      n = net_in (nets s) j

      apart : Apart (nets s)
      apart = (well_formed-accepted s sheet.accepted).apart

      small : Small (rising_nets s)
      small = rising-small s sheet.accepted

      count : length (rising_nets s) ≡ m
      count = omega (arith, rising-length (nets s), sheet-count sheet)

      rank : (rank_at (nets s) j < length (nets s)) × (net_in (rising_nets s) (rank_at (nets s) j) ≡ n)
      rank = rank_at-rising (nets s) apart j (omega (arith, sheet-count sheet))

      l : k < length (rising_nets s)
      l = omega (arith, rank.0, rising-length (nets s))

      same : net_in (rising_nets s) k ≡ n
      same = ap (net_in (rising_nets s)) q ∙ rank.1

      ends : get_or start (k + 1) 0 ≡ get_or start k 0 + size n
      ends = S.sizes k l ∙ ap (λ (i : Net). get_or start k 0 + size i) same

      within : get_or start (k + 1) 0 ≤ 2048
      within = omega (arith, started-le S small (k + 1) (omega (arith, l)), l, small.count)

      part : maps_of start maps k ≡ take (size n) (drop (get_or start k 0) maps)
      part =
          let z : get_or start (k + 1) 0 - get_or start k 0 ≡ size n = omega (arith, ends) in
          ap (λ (i : ℕ). take i (drop (get_or start k 0) maps)) z

module _ {partner : ℕ → ℕ → ℕ → ℕ} {w : ℕ} {f : ℕ → ℕ} {n : Net} {start maps homes : List ℕ} {k : ℕ}
    (I : InTables partner w f n start maps homes k) where
  pub in_tables-codes : w ≤ 32 → Codes w (get_or homes k 0) (maps_of start maps k)
  in_tables-codes l i h =
      let b = I.whole in
      record { known = I.codes.code i (omega arith); shift = I.codes.low i (omega arith); width = l; track = I.low }

  in_tables-bytes : tracks_from w (get_or homes k 0) (maps_of start maps k) ≡ net_bytes partner f n
  in_tables-bytes =
      rw I.home (tracks_from-tracks partner w (get_or homes k 0) n (maps_of start maps k) I.codes I.whole I.low)

-- ---- NetsWritten

-- the bytes of the first j nets are written over those of `before`, and the bytes of net j start at `at`
pub record NetsWritten (partner : ℕ → ℕ → ℕ → ℕ) (f : ℕ → ℕ) (ns : List Net) (before after : List ℕ) (j at : ℕ) : Type 0 where
  pub first : at ≡ first_byte ns j
  pub parts : PartsWritten (λ i. bytes_from partner (take i ns) f) before after j at

pub nets_written-none : {partner : ℕ → ℕ → ℕ → ℕ} {f : ℕ → ℕ} {ns : List Net} {before : List ℕ} → NetsWritten partner f ns before before 0 0
unfolding bytes_from
nets_written-none {ns = ns} = record { first = sym (first_byte-none ns); parts = parts_none refl }

module _ {partner : ℕ → ℕ → ℕ → ℕ} {f : ℕ → ℕ} {ns : List Net} {before after : List ℕ} {j at : ℕ}
    (W : NetsWritten partner f ns before after j at) (room : entry_count ns ≤ length before) (h : j < length ns) where
  pub nets_written-room : at + size (net_in ns j) ≤ length after
  nets_written-room = omega (arith, first_byte-le ns j h, W.parts.kept)

  pub nets_written-more : {w : ℕ} {start maps homes v : List ℕ} {k : ℕ} → InTables partner w f (net_in ns j) start maps homes k
      → v ≡ tracks_from w (get_or homes k 0) (maps_of start maps k)
      → let end = at + length (maps_of start maps k) in
      NetsWritten partner f ns before (take at after ++ (v ++ drop (end - at) (drop at after))) (j + 1) end
  nets_written-more {start = start} {maps = maps} {v = v} {k = k} I e = record {
    first = omega (arith, first_byte-more ns j h);
    parts = parts_more v _ W.parts
        (bytes_from-more partner f ns j h ∙ ap (λ (b : List ℕ). bytes_from partner (take j ns) f ++ b) (sym (e ∙ in_tables-bytes I)))
        (ap length e ∙ length-map (maps_of start maps k) _ ∙ omega arith)
        (omega arith)
        (omega (arith, first_byte-le ns j h));
  }

pub nets_written-all : {partner : ℕ → ℕ → ℕ → ℕ} (hs : List ℕ) {ns : List Net} {before after : List ℕ} {j at : ℕ}
    → NetsWritten partner (home_track_of (rising ns) hs) ns before after j at → j ≡ length ns
    → after ≡ overwrite (assignment_from partner ns hs) before
unfolding assignment_from
nets_written-all {partner} hs {ns} {before} {j = j} W e =
    W.parts.bytes ∙ ap (λ (l : List Net). overwrite (bytes_from partner l (home_track_of (rising ns) hs)) before) (take_all j ns (omega arith))
