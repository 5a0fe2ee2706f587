-- `net::Record::differs_from_earlier` meets its contract: `every_from_all`. Assumes nothing.
use Rattle.std.proofs.Common.{rules, tests, refl, not, eqb}
use Rattle.bounded.proofs.Listed.{every_from_all}
use Rattle.net.specs.Net.{net_of, channel}
use Rattle.net.proofs.Record.differs_from_earlier.Goals as goal

pub returns : goal.returns
returns c =
    let n = net_of c.args.self.z c.args.self.bytes.now in
    every_from_all c.args.i (λ j. not (eqb (channel n c.args.i) (channel n j))) c.all.ensures.ran refl (λ x b q k. search (rules, tests))
