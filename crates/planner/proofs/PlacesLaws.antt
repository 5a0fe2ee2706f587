-- The nets at places of a sheet (nets_at, Places, PlanOf of specs/Planned.antt). Assumes nothing.
-- nets_at: its length, each net. PlanOf: of the plan's own nets. Places: all of a sheet, in rising net number; the net at each. Chosen: what a
-- loop over the chosen nets reads, the place and the record's net.
use mathlib.Core.Path.{◌≡◌, sym, subst, ◌∙◌}
use Prim.Native.Nat.{ℕ, ◌≤◌, ◌<◌}
use native.Mathlib.Omega.{arith}
use mathlib.Core.List.{List}
use lib.ListN.{length, get_or}
use lib.Seq.{ext_get_or}
use Rattle.bounded.proofs.BoundedLaws.{build-length, build-at}
use Rattle.net.specs.Net.{Net, net_of, size}
use Rattle.net.specs.Read.{net_read}
use Rattle.net.specs.declared.Record.{Record}
use Rattle.net.specs.Nets.{no_net, net_in, In}
use Rattle.net.proofs.NetLaws.{net_of-size}
use Rattle.net.proofs.NetsLaws.{place_in}
use Rattle.netlist.specs.declared.Sheet.{Sheet}
use Rattle.netlist.specs.Netlist.{net_count, net_at, record_bytes, nets}
use Rattle.netlist.proofs.NetlistLaws.{readable-trailer, record-net, nets-length, net_in-nets}
use Rattle.rank.specs.Facts.{rising_nets, Ordered}
use Rattle.rank.proofs.OrderLaws.{rising-length}
use Rattle.planner.specs.declared.Plan.{Plan}
use Rattle.planner.specs.declared.Chosen.{Chosen}
use Rattle.planner.specs.Chosen.{chosen_nets}
use Rattle.planner.specs.Planned.{nets_at, Places, plan_nets, PlanOf}

-- ---- nets_at

module _ (s order : List ℕ) (count : ℕ) where
  pub nets_at-length : length (nets_at s order count) ≡ count
  unfolding nets_at
  nets_at-length = build-length count _

  pub nets_at-at : (k : ℕ) → k < count → net_in (nets_at s order count) k ≡ net_in (nets s) (get_or order k 0)
  unfolding nets_at
  nets_at-at k h = build-at count _ k no_net h

-- ---- PlanOf

-- a plan is that of its own nets
pub plan-own : {s : List ℕ} {ns : List Net} {p : Plan} → PlanOf s ns p → PlanOf s (plan_nets s p) p
plan-own {s} {ns} {p} P = subst (λ (ms : List Net). PlanOf s ms p) (sym P.nets) P

-- ---- Places

-- the trailer's net count
pub sheet-count : (h : Sheet) → (length (nets h.netlist.bytes.now) ≡ h.netlist.trailer.nets) × (h.netlist.trailer.nets ≤ 64)
sheet-count h =
    let t = readable-trailer h.netlist.readable h.netlist.trailer h.netlist.own in
    (omega (arith, nets-length h.netlist.bytes.now), omega arith)

-- all places of the sheet, in rising net number
module _ (h : Sheet) {order : List ℕ} (o : Ordered h.netlist.bytes.now order) where
  pub ordered-places : Places h.netlist.bytes.now order h.netlist.trailer.nets
  ordered-places = let n = sheet-count h in record { few = n.1; within = λ k l. o.within k (omega arith) }

  pub ordered-nets : nets_at h.netlist.bytes.now order h.netlist.trailer.nets ≡ rising_nets h.netlist.bytes.now
  ordered-nets =
      let s = h.netlist.bytes.now in
      let n = sheet-count h in
      let m = nets_at-length s order h.netlist.trailer.nets in
      ext_get_or no_net _ (rising_nets s) (m ∙ sym n.0 ∙ sym (rising-length (nets s)))
      (λ k l. let b : k < h.netlist.trailer.nets = omega arith in nets_at-at s order _ k b ∙ sym (o.same k (omega arith)))

pub place-in-sheet : {s order : List ℕ} {count : ℕ} → Places s order count → (k : ℕ) → k < count → In (net_in (nets_at s order count) k) (nets s)
place-in-sheet {s} {order} {count} p k h =
    subst (λ (n : Net). In n (nets s)) (sym (nets_at-at s order count k h)) (place_in (nets s) (get_or order k 0) (p.within k h))

module _ {s order : List ℕ} {count : ℕ} (p : Places s order count) {k : ℕ} (h : k < count) where
  place-counted : get_or order k 0 < net_count s
  place-counted = omega (arith, p.within k h, nets-length s)

  -- the net at the place, also by the sheet's directory
  pub place-net : (get_or order k 0 < net_count s) × (net_in (nets_at s order count) k ≡ net_at s (get_or order k 0))
  place-net = (place-counted, nets_at-at s order count k h ∙ net_in-nets s (get_or order k 0) place-counted)

-- the net of a record has at most 32 entries
pub record-short : (r : Record) → size (net_read r) ≤ 32
record-short r = omega (arith, net_of-size r.z r.bytes.now, r.whole.short)

pub chosen-length : (c : Chosen) → length (chosen_nets c) ≡ c.count
chosen-length c = nets_at-length c.sheet.netlist.bytes.now c.order.now c.count

module _ (c : Chosen) {k : ℕ} (h : k < c.count) where
  abbrev order : List ℕ
  order = c.order.now

  -- the place
  pub place-lt : (get_or order k 0 < c.sheet.netlist.trailer.nets) × (get_or order k 0 < 64)
  place-lt =
      let t = readable-trailer c.sheet.netlist.readable c.sheet.netlist.trailer c.sheet.netlist.own in
      let n = place-net c.places h in
      (omega arith, omega arith)

  -- the net of the record that is read there
  pub place-read : {b : List ℕ} {z : ℕ} → (b ≡ record_bytes c.sheet.netlist.bytes.now (get_or order k 0)) × (z ≡ c.sheet.netlist.trailer.numbersize)
      → net_of z b ≡ net_in (chosen_nets c) k
  place-read e = record-net c.sheet.netlist.bytes.now c.sheet.netlist.own (get_or order k 0) e ∙ sym (place-net c.places h).1

-- what the check is to know of a chosen place
pub ruleset of_places = (place-lt)
