-- `planner::Chosen::old_homes` meets its contract: the loop's invariant is that the nets passed have their old home tracks, and placed counts
-- the routed ones. Assumes nothing.
use mathlib.Core.Path.{◌≡◌, sym, ap, ap₂, ◌∙◌}
use mathlib.Core.List.{List}
use Prim.Native.Nat.{ℕ, ◌+◌, ◌-◌, ◌≤◌, ◌<◌}
use native.Mathlib.Omega.{arith}
use lib.ListN.{length, get_or, take, drop, length-set}
use Rattle.net.specs.Net.{Net, size, entry_of}
use Rattle.net.specs.Nets.{entry_count, net_in}
use Rattle.netlist.specs.Netlist.{nets}
use Rattle.nettracks.specs.NetTracks.{unrouted}
use Rattle.assignment.specs.Assignment.{first_byte, tracks_of}
use Rattle.assignment.proofs.AssignmentLaws.{first_byte-le, tracks_of-part, tracks_of-length}
use Rattle.planner.specs.declared.Chosen.{Chosen}
use Rattle.planner.specs.Chosen.{chosen_nets}
use Rattle.planner.specs.Planned.{FirstBytes}
use Rattle.planner.proofs.PlacesLaws.{nets_at-at, chosen-length}
use Rattle.planner.proofs.FilledLaws.{filled_none, filled_more}
use Rattle.planner.proofs.OldHomeLaws.{routed_count-none, routed_count-all, home-unrouted, count-unrouted, home-routed, count-routed}
use Rattle.netsearch.specs.HomeTrack.{home, byte_of}
use Rattle.netsearch.specs.Refit.{routed_count}
use Rattle.std.proofs.Common.{rules}
use Rattle.planner.proofs.Chosen.old_homes.Goals as goal
use Rattle.planner.proofs.Chosen.old_homes.Goals.{then-is_unrouted, else-is_unrouted}

pub loop-k-init : goal.loop-k-init
loop-k-init c = (sym (routed_count-none _ (chosen_nets c.args.self)), omega arith, search rules, filled_none)

-- the net that was read at a chosen place of the sheet, as it stands there, and its bytes in the old assignment, which start at `at`
record AtPlace (s old : List ℕ) (j at : ℕ) (n : Net) : Type 0 where
  below : j < length (nets s)
  net : n ≡ net_in (nets s) j
  start : at ≡ first_byte (nets s) j
  within : at + size n ≤ length old
  tracks : (end : ℕ) → end ≡ at + size n → take (end - at) (drop at old) ≡ tracks_of (nets s) old j
  filled : length (tracks_of (nets s) old j) ≡ size n

at_place : (h : Chosen) (old : List ℕ) → length old ≡ entry_count (nets h.sheet.netlist.bytes.now) → {k : ℕ} → k < h.count → (first : List ℕ)
    → FirstBytes (nets h.sheet.netlist.bytes.now) first → {n : Net} → n ≡ net_in (chosen_nets h) k
    → AtPlace h.sheet.netlist.bytes.now old (get_or h.order.now k 0) (get_or first (get_or h.order.now k 0) 0) n
at_place h old e {k} l first f {n} same =
    let s = h.sheet.netlist.bytes.now in
    let j = get_or h.order.now k 0 in
    let below : j < length (nets s) = h.places.within k l in
    let net : n ≡ net_in (nets s) j = same ∙ nets_at-at s h.order.now h.count k l in
    let start : get_or first j 0 ≡ first_byte (nets s) j = f j below in
    let sized = ap size net in
    record {
      below = below;
      net = net;
      start = start;
      within = omega (arith, first_byte-le (nets s) j below);
      tracks = λ end q. tracks_of-part (nets s) old j (get_or first j 0) end start (omega arith);
      filled = tracks_of-length (nets s) old j e below ∙ sym sized;
    }

pub slice_bounds-ts-end : goal.slice_bounds-ts-end
slice_bounds-ts-end c = omega (arith, at_place c.args.self c.args.old.now c.requires c.loop-k-test.true _ c.first_bytes-first.ensures c.record-record.ensures)

pub loop-k-preserved : goal.loop-k-preserved
loop-k-preserved c =
    let h = c.args.self in
    let s = h.sheet.netlist.bytes.now in
    let old = c.args.old.now in
    let ns = chosen_nets h in
    let k = c.loop-k.k in
    let j = get_or h.order.now k 0 in
    let v = c.loop-k.invariant in
    let l : k < 64 = omega (arith, h.places.few) in
    let m : k < length ns = omega (arith, chosen-length h) in
    let p = at_place h old c.requires c.loop-k-test.true _ c.first_bytes-first.ensures c.record-record.ensures in
    let same = nets_at-at s h.order.now h.count k c.loop-k-test.true in
    let t = p.tracks _ (ap (λ (i : ℕ). get_or c.first_bytes-first.result j 0 + i) c.entry_count.ensures.0) in
    let b = sym (ap unrouted t) ∙ sym c.is_unrouted.ensures in
    elim c.if-is_unrouted.branch [
      | then-is_unrouted w ↦
          let u = b ∙ w.if-is_unrouted.true in
          let d = count-unrouted s old h.sheet.accepted c.requires ns k j m p.below same u in
          let e = sym (home-unrouted s old h.sheet.accepted c.requires ns k j m p.below same u) in
          (omega arith, omega arith, rw w.homes-is (simp length-set v.2), rw w.homes-is (filled_more (omega arith) e v.3))
      | else-is_unrouted w ↦
          let u = b ∙ w.if-is_unrouted.false in
          let d = count-routed s old h.sheet.accepted c.requires ns k j m p.below same u in
          let o = w.home_entry.ensures.0 ∙ ap (λ (n : Net). entry_of n (home n)) p.net in
          let g = ap₂ (λ (ts : List ℕ) (x : ℕ). get_or ts x 0) t o in
          let e = g ∙ sym (home-routed s old h.sheet.accepted c.requires ns k j m p.below same u) in
          (omega arith, omega arith, rw w.homes-is (simp length-set v.2), rw w.homes-is (filled_more (omega arith) e v.3))
    ]

pub returns : goal.returns
returns c =
    let h = c.args.self in
    let ns = chosen_nets h in
    let old = byte_of (nets h.sheet.netlist.bytes.now) c.args.old.now in
    let e : c.loop-k.k ≡ length ns = omega (arith, chosen-length h) in
    let v = c.loop-k.invariant in
    (λ i l. v.3.at i (omega arith), v.0 ∙ ap (λ (k : ℕ). routed_count old (take k ns)) e ∙ routed_count-all old ns)
