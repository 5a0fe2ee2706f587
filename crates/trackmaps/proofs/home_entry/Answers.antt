-- `trackmaps::home_entry` meets its contract: the loop's invariant is that `at` is the first of the lowest channels passed. Assumes nothing.
use mathlib.Core.Path.{◌∙◌}
use native.Mathlib.Omega.{arith}
use lib.ListN.{length-map}
use Rattle.net.specs.Net.{Entry, channels}
use Rattle.net.specs.Read.{net_read}
use Rattle.net.proofs.NetLaws.{net_of-size}
use Rattle.trackmaps.proofs.HomeLaws.{first_lowest-one, first_lowest-keep, first_lowest-new, first_lowest-all}
use Rattle.trackmaps.proofs.home_entry.Goals as goal
use Rattle.trackmaps.proofs.home_entry.Goals.{then-c-low, else-c-low}

pub channel-low-requires : goal.channel-low-requires
channel-low-requires c = let r = c.args.net in omega (arith, net_of-size r.z r.bytes.now, r.whole.filled)

pub loop-i-init : goal.loop-i-init
loop-i-init c = (c.channel-low.ensures.0, first_lowest-one _)

pub loop-i-preserved : goal.loop-i-preserved
loop-i-preserved c =
    let xs = channels (net_read c.args.net) in
    let m = c.loop-i in
    let v = c.channel-c.ensures.0 in
    elim c.if-c-low.branch [
      | then-c-low w ↦ rw (w.at-is, w.low-is) (v, first_lowest-new xs m.i m.at m.invariant.1 (omega arith))
      | else-c-low w ↦ rw (w.at-is, w.low-is) (m.invariant.0, first_lowest-keep xs m.i m.at m.invariant.1 (omega arith))
    ]

pub returns : goal.returns
returns c =
    let n = net_read c.args.net in
    let p = c.loop-i.invariant.1 in
    (first_lowest-all (channels n) _ _ (length-map n.entries (λ (e : Entry). e.channel) ∙ omega arith) p, omega (arith, p.within))
