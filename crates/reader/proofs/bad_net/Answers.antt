-- `reader::bad_net` meets its contract: `every_from_all`. Assumes nothing.
use Rattle.std.proofs.Common.{rules, tests, ap, not}
use Rattle.bounded.proofs.Listed.{every_from_all}
use Rattle.net.specs.Facts.{passes}
use Rattle.netlist.specs.declared.Trailer.{Trailer}
use Rattle.netlist.specs.Netlist.{net_at, net_count, grid_of}
use Rattle.netlist.specs.Facts.{bad_net}
use Rattle.reader.proofs.bad_net.Goals as goal

pub returns : goal.returns
unfolding bad_net
returns c =
    let h = c.args.netlist in
    let s = h.bytes.now in
    let n = ap (λ (t : Trailer). t.nets) h.own in
    ap not
    (every_from_all (net_count s) (λ k. passes (grid_of s) c.args.test (net_at s k)) c.all.ensures.ran (ap (λ e. record { start = 0; end = e }) n)
    (λ x b q k. search (rules, tests, h.own)))
