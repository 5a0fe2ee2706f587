-- `planner::make_plan` meets its contract: the places in rising net number are those of all nets of the sheet. Assumes nothing.
use mathlib.Core.Path.{refl}
use Rattle.planner.proofs.PlacesLaws.{ordered-places, ordered-nets}
use Rattle.planner.proofs.make_plan.Goals as goal

pub invariant_of-all : goal.invariant_of-all
invariant_of-all c = record { places = ordered-places c.args.inputs.now.sheet c.rising_order-order.ensures }

pub returns : goal.returns
returns c =
    let h = c.args.inputs.now in
    let e = ordered-nets h.sheet c.rising_order-order.ensures in (
      record {
        places = ordered-places h.sheet c.rising_order-order.ensures;
        nets = e;
        entries = rw e at c.entries.ensures;
        loads = rw e at c.channel_loads.ensures;
        boxes = h.made;
      },
      refl,
    )
