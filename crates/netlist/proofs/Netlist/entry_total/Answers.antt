-- `netlist::Netlist::entry_total` meets its contract: the loop's invariant is that the total is the entry count of the nets passed. Assumes nothing.
use mathlib.Core.Path.{◌≡◌, refl, ap, ◌∙◌}
use Prim.Native.Nat.{ℕ}
use native.Mathlib.Omega.{arith}
use lib.ListN.{length, take}
use Rattle.net.specs.Net.{size}
use Rattle.net.specs.Nets.{entry_count}
use Rattle.net.proofs.NetsLaws.{entry_count-all}
use Rattle.netlist.specs.Netlist.{nets}
use Rattle.netlist.proofs.NetlistLaws.{readable-trailer, readable-below, nets-length, entry_count-nets, record-net}
use Rattle.netlist.proofs.Netlist.entry_total.Goals as goal

pub loop-k-init : goal.loop-k-init
unfolding entry_count
loop-k-init c = (refl, omega arith)

pub loop-k-preserved : goal.loop-k-preserved
loop-k-preserved c =
    let h = c.args.self in
    let s = h.bytes.now in
    let k = c.loop-k.k in
    let below = readable-below h.readable _ h.own k c.loop-k-test.true in
    let e = entry_count-nets s k below.0 in
    let n = ap size (record-net s h.own k c.record.ensures) in
    (omega arith, omega arith)

pub returns : goal.returns
returns c =
    let h = c.args.self in
    let s = h.bytes.now in
    let w = readable-trailer h.readable _ h.own in
    let k : c.loop-k.k ≡ length (nets s) = omega (arith, nets-length s) in
    (c.loop-k.invariant.0 ∙ ap (λ (n : ℕ). entry_count (take n (nets s))) k ∙ entry_count-all (nets s), omega arith)
