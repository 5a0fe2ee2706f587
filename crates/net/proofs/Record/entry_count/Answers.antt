-- `net::Record::entry_count` meets its contract: the count of the record is the size of its net, by `net_of-size`. Assumes nothing.
use native.Mathlib.Omega.{arith}
use Rattle.net.proofs.NetLaws.{net_of-size}
use Rattle.net.proofs.Record.entry_count.Goals as goal

pub returns : goal.returns
returns c = let e = net_of-size c.args.self.z c.args.self.bytes.now in let w = c.args.self.whole in (omega arith, omega arith, omega arith)
