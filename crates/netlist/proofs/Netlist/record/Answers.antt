-- `netlist::Netlist::record` meets its contract: it lends the part that `record_part` gives, and a record of a readable sheet is whole.
-- Assumes nothing.
use mathlib.Core.Path.{refl}
use native.Mathlib.Omega.{arith}
use Rattle.netlist.specs.Netlist.{record_bytes}
use Rattle.netlist.proofs.NetlistLaws.{part_bytes-end, readable-trailer, record-whole}
use Rattle.netlist.proofs.Netlist.record.Goals as goal

pub invariant_of-result : goal.invariant_of-result
unfolding record_bytes
invariant_of-result c =
    let h = c.args.self in
    let w = readable-trailer h.readable _ h.own in
    record { whole = rw (part_bytes-end _ _ _ c.record_part-part.ensures.0, h.own) (record-whole h.readable c.args.k (omega arith)) }

pub returns : goal.returns
unfolding record_bytes
returns c = (part_bytes-end _ _ _ c.record_part-part.ensures.0, refl)
