-- The table of track maps, net by net (specs/Filled.antt, Mapped of specs/Planned.antt). Assumes nothing.
-- PlanOf: its boxes are made, its nets have trees. MapsFrom: a part of the table is filled. Started: where each net's entries start. MappedTo: no net, one net more.
use mathlib.Core.Path.{◌≡◌, sym, subst, ap, ap₂, ◌∙◌}
use Prim.Native.Nat.{ℕ, zero, suc, ◌+◌, ◌%◌, ◌≤◌, ◌<◌}
use native.Mathlib.Omega.{arith}
use native.Mathlib.Decide.{dec_lt}
use native.Mathlib.Numerals.{add-one}
use mathlib.Core.List.{List}
use mathlib.Core.Bool.{true}
use lib.ListN.{length, get_or, take, drop}
use lib.Seq.{get_or-take, get_or-drop}
use Rattle.net.specs.declared.Test.TheVariants.{Repeats}
use Rattle.switchbox.specs.declared.Boxes.{Boxes}
use Rattle.switchbox.specs.Facts.{Made}
use Rattle.switchbox.proofs.GeneratorLaws.{made-own}
use Rattle.net.specs.Net.{Net, size, channels_differ, parents_right}
use Rattle.net.specs.Facts.{passes}
use Rattle.net.specs.Nets.{net_in}
use Rattle.netlist.specs.Netlist.{WellFormed, net_count, net_at}
use Rattle.netlist.proofs.NetlistLaws.{well_formed-passes, well_formed-readable, readable-allowed}
use Rattle.assignment.specs.Assignment.{first_byte}
use Rattle.assignment.proofs.AssignmentLaws.{first_byte-none, first_byte-more, net-parents}
use Rattle.trackmaps.specs.TrackMaps.{MapsAre}
use Rattle.wires.specs.Wires.{mapped_by}
use Rattle.planner.specs.declared.Plan.{Plan}
use Rattle.planner.specs.Planned.{Started, plan_nets, PlanOf}
use Rattle.planner.specs.Filled.{MapsFrom}
use Rattle.planner.proofs.PlacesLaws.{place-net}
use Rattle.planner.proofs.FilledLaws.{first_byte-before}

-- ---- PlanOf

-- number 7 leaves no net with a channel twice
pub net-differ : (s : List ℕ) → WellFormed s → (k : ℕ) → k < net_count s → channels_differ (net_at s k) ≡ true
unfolding passes
net-differ s a k h = well_formed-passes s a Repeats k h

module _ {s : List ℕ} (a : WellFormed s) {ns : List Net} {p : Plan} (P : PlanOf s ns p) where
  pub plan-made : Made p.boxes
  plan-made = made-own P.boxes (readable-allowed (well_formed-readable s a))

  -- the k-th net of the plan has a tree
  module _ {k : ℕ} (h : k < p.count) {n : Net} (e : n ≡ net_in (plan_nets s p) k) where
    pub plan-parents : parents_right p.boxes.fabric.grid n ≡ true
    plan-parents =
        let q = place-net P.places h in
        ap₂ parents_right (ap (λ (x : Boxes). x.fabric.grid) P.boxes) (e ∙ q.1) ∙ net-parents s a _ q.0

    pub plan-differ : channels_differ n ≡ true
    plan-differ = let q = place-net P.places h in ap channels_differ (e ∙ q.1) ∙ net-differ s a _ q.0

-- ---- MapsFrom

module _ (partner : ℕ → ℕ → ℕ → ℕ) (w : ℕ) where
  -- track maps that are equal entry by entry
  maps_are-same : (n : Net) (ts us : List ℕ) → ((i : ℕ) → i < size n → get_or us i 0 ≡ get_or ts i 0) → MapsAre partner w n ts → MapsAre partner w n us
  maps_are-same n ts us e f = record {
    code = λ i h. omega (arith, e i h, f.code i h);
    low = λ i h. subst (λ (x : ℕ). x % 32 < w) (sym (e i h)) (f.low i h);
    same = λ i t h l. ap (λ (x : ℕ). mapped_by w x t) (e i h) ∙ f.same i t h l;
  }

-- ---- Started

started-at : (ns : List Net) (start : List ℕ) → Started ns start → (k : ℕ) → k ≤ length ns → get_or start k 0 ≡ first_byte ns k
started-at ns start f zero h = f.first ∙ sym (first_byte-none ns)
started-at ns start f (suc k) h =
    ap (λ (x : ℕ). get_or start x 0) (sym (add-one k))
    ∙ omega (arith, f.sizes k (omega arith), started-at ns start f k (omega arith), first_byte-more ns k (omega arith))
    ∙ ap (first_byte ns) (add-one k)

-- ---- MappedTo

module _ (partner : ℕ → ℕ → ℕ → ℕ) (w : ℕ) (ns : List Net) (start : List ℕ) where
  -- the first k nets have their track maps
  abbrev pub MappedTo : ℕ → List ℕ → Type 0
  MappedTo k maps = (j : ℕ) → j < k → MapsAre partner w (net_in ns j) (take (size (net_in ns j)) (drop (get_or start j 0) maps))

  pub mapped_to-more : Started ns start → (k : ℕ) (before after : List ℕ) → k < length ns → MappedTo k before
      → MapsFrom partner w (net_in ns k) (get_or start k 0) before after → MappedTo (k + 1) after
  mapped_to-more f k before after h d g j l = at (dec_lt j k)
    where
      -- an entry of an earlier net lies before those of net k
      inside : j < k → (i : ℕ) → i < size (net_in ns j) → get_or start j 0 + i < get_or start k 0
      inside m i o =
          omega (
            arith,
            started-at ns start f j (omega arith),
            started-at ns start f k (omega arith),
            first_byte-before ns j k m (omega arith),
          )

      entry : (maps : List ℕ) (i : ℕ) → i < size (net_in ns j)
          → get_or (take (size (net_in ns j)) (drop (get_or start j 0) maps)) i 0 ≡ get_or maps (get_or start j 0 + i) 0
      entry maps i o = get_or-take (size (net_in ns j)) (drop (get_or start j 0) maps) i 0 o ∙ get_or-drop (get_or start j 0) maps i 0

      at : Dec (j < k) → MapsAre partner w (net_in ns j) (take (size (net_in ns j)) (drop (get_or start j 0) after))
      at (yes m) =
          maps_are-same partner w (net_in ns j) _ _
          (λ i o. entry after i o ∙ g.kept (get_or start j 0 + i) (inside m i o) ∙ sym (entry before i o))
          (d j m)
      at (no m) =
          let e : k ≡ j = omega arith in
          subst (λ (x : ℕ). MapsAre partner w (net_in ns x) (take (size (net_in ns x)) (drop (get_or start x 0) after))) e g.maps
