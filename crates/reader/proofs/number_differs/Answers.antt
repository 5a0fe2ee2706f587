-- `reader::number_differs` meets its contract: `every_from_all`. Assumes nothing.
use Rattle.std.proofs.Common.{rules, tests, refl, not, eqb}
use Rattle.bounded.proofs.Listed.{every_from_all}
use Rattle.netlist.specs.Netlist.{net_at}
use Rattle.reader.proofs.number_differs.Goals as goal

pub returns : goal.returns
returns c =
    let s = c.args.netlist.bytes.now in
    every_from_all c.args.k (λ j. not (eqb (net_at s c.args.k).number (net_at s j).number)) c.all.ensures.ran refl (λ x b q k. search (rules, tests))
