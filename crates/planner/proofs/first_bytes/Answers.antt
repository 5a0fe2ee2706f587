-- `planner::first_bytes` meets its contract: the loop's invariant is that the nets passed have their first bytes. Assumes nothing.
use mathlib.Core.Path.{sym, ap, ◌∙◌}
use native.Mathlib.Omega.{arith}
use lib.ListN.{length-set}
use Rattle.net.specs.Net.{size}
use Rattle.netlist.specs.Netlist.{nets}
use Rattle.netlist.proofs.NetlistLaws.{readable-below, readable-trailer, record-net, nets-length, net_in-nets}
use Rattle.assignment.proofs.AssignmentLaws.{first_byte-none, first_byte-more}
use Rattle.planner.proofs.FilledLaws.{filled_none, filled_more}
use Rattle.std.proofs.Common.{rules}
use Rattle.planner.proofs.first_bytes.Goals as goal

pub loop-j-init : goal.loop-j-init
loop-j-init c = (sym (first_byte-none _), omega arith, search rules, filled_none)

pub loop-j-preserved : goal.loop-j-preserved
loop-j-preserved c =
    let h = c.args.sheet.netlist in
    let s = h.bytes.now in
    let j = c.loop-j.j in
    let v = c.loop-j.invariant in
    let l = readable-below h.readable _ h.own j c.loop-j-test.true in
    let e = first_byte-more (nets s) j (omega (arith, nets-length s)) in
    let z = ap size (record-net s h.own j c.record.ensures ∙ sym (net_in-nets s j l.0)) in
    (omega arith, omega arith, simp length-set v.2, filled_more (omega arith) v.0 v.3)

pub returns : goal.returns
returns c =
    let h = c.args.sheet.netlist in
    let t = readable-trailer h.readable _ h.own in
    λ j l. c.loop-j.invariant.3.at j (omega (arith, nets-length h.bytes.now))
