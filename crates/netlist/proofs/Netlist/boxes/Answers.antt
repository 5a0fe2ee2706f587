-- `netlist::Netlist::boxes` meets its contract: a readable sheet's fabric is one that `boxtables::boxes_of` takes. Assumes nothing.
use Rattle.netlist.proofs.NetlistLaws.{readable-allowed}
use Rattle.netlist.proofs.Netlist.boxes.Goals as goal

pub boxes_of-requires : goal.boxes_of-requires
boxes_of-requires c = let h = c.args.self in rw (c.rows.ensures, h.own) (readable-allowed h.readable)
