-- `planner::Chosen::channel_loads` meets its contract: the loop's invariant is that the loads count the nets passed. Assumes nothing.
use mathlib.Core.Path.{◌≡◌, sym, subst}
use native.Mathlib.Omega.{arith}
use lib.ListN.{length}
use Rattle.net.specs.Net.{Net}
use Rattle.planner.specs.Chosen.{chosen_nets}
use Rattle.planner.specs.Filled.{Countable}
use Rattle.planner.proofs.PlacesLaws.{chosen-length, place-in-sheet}
use Rattle.planner.proofs.DensityLaws.{counted_none, counted-countable, counted-more, counted-all}
use Rattle.planner.proofs.Chosen.channel_loads.Goals as goal

pub loop-k-init : goal.loop-k-init
loop-k-init c = counted_none _

pub count_net-requires : goal.count_net-requires
count_net-requires c =
    let h = c.args.self in
    let l = c.loop-k in
    subst (λ (m : Net). Countable m l.load) (sym c.record.ensures)
    (counted-countable _ h.sheet.accepted _ l.k l.load (place-in-sheet h.places l.k c.loop-k-test.true) l.invariant (omega (arith, h.places.few)))

pub loop-k-preserved : goal.loop-k-preserved
loop-k-preserved c =
    let h = c.args.self in
    counted-more (chosen_nets h) c.loop-k.k _ c.loop-k.invariant (omega (arith, chosen-length h)) _ c.count_net.auto.load
    (rw c.record.ensures at c.count_net.ensures)

pub returns : goal.returns
returns c =
    let h = c.args.self in
    let e : c.loop-k.k ≡ length (chosen_nets h) = omega (arith, chosen-length h) in
    counted-all (chosen_nets h) c.loop-k.load (rw e at c.loop-k.invariant)
