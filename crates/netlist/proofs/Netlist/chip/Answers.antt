-- `netlist::Netlist::chip` meets its contract: number 3 leaves the sides within their limits. Assumes nothing.
use Rattle.netlist.proofs.NetlistLaws.{readable-allowed}
use Rattle.netlist.proofs.Netlist.chip.Goals as goal

pub invariant_of-result : goal.invariant_of-result
invariant_of-result c = record { sized = rw c.args.self.own (readable-allowed c.args.self.readable).sized }
