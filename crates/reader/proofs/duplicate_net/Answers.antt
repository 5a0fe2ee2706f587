-- `reader::duplicate_net` meets its contract: `every_from_all`. Assumes nothing.
use Rattle.std.proofs.Common.{rules, tests, ap, not, eqb}
use Rattle.bounded.specs.Bounded.{every, differ}
use Rattle.bounded.proofs.Listed.{every_from_all}
use Rattle.netlist.specs.declared.Trailer.{Trailer}
use Rattle.netlist.specs.Netlist.{net_at, net_count, duplicate_net}
use Rattle.reader.proofs.duplicate_net.Goals as goal

pub returns : goal.returns
unfolding duplicate_net differ
returns c =
    let h = c.args.netlist in
    let s = h.bytes.now in
    let n = ap (λ (t : Trailer). t.nets) h.own in
    ap not
    (every_from_all (net_count s) (λ k. every k (λ j. not (eqb (net_at s k).number (net_at s j).number))) c.all.ensures.ran (ap (λ e. record { start = 0; end = e }) n)
    (λ x b q k. search (rules, tests)))
