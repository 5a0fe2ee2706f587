-- `removal::write_without` meets its contract: the loop's invariant is that what is left of the nets before k is written, and the bytes of
-- net k start at `at`. Assumes nothing.
use mathlib.Core.Path.{◌≡◌, sym, ap, ap₂, ◌∙◌}
use mathlib.Core.Bool.{Bool}
use mathlib.Core.List.{List, ◌++◌, map}
use Prim.Native.Nat.{ℕ, ◌+◌, ◌-◌}
use native.Mathlib.Omega.{arith}
use lib.Dec.{eqb}
use lib.ListN.{length, take, drop}
use Rattle.bounded.specs.Bounded.{joined}
use Rattle.bounded.proofs.BoundedLaws.{joined-none, joined-more}
use Rattle.net.specs.Net.{Net, size, net_of}
use Rattle.netlist.specs.Netlist.{nets}
use Rattle.netlist.proofs.NetlistLaws.{readable-trailer, nets-length}
use Rattle.assignment.proofs.AssignmentLaws.{first_byte-none, Pass, pass-of, pass-counted, pass-net, pass-end-le, pass-next, pass-tracks, pass-filled}
use Rattle.routing.specs.Outcomes.{overwrite}
use Rattle.routing.specs.Remove.{left_of, without}
use Rattle.routing.proofs.OverwriteLaws.{parts_none, parts_more}
use Rattle.routing.proofs.RemoveLaws.{left_part, left_part-length, left_part-map}
use Rattle.removal.proofs.write_without.Goals as goal

pub loop-k-init : goal.loop-k-init
loop-k-init c = (sym (first_byte-none _), parts_none (joined-none _))

pub overflow_add-end : goal.overflow_add-end
overflow_add-end c =
    let s = c.args.sheet in
    let u = pass-of s.accepted s.netlist.own c.requires.0 c.loop-k-test.true c.loop-k.invariant.0 c.record-record.ensures in
    let l = pass-end-le u c.entry_count.result c.entry_count.ensures.0 in
    omega arith

pub slice_bounds-write_net-end : goal.slice_bounds-write_net-end
slice_bounds-write_net-end c =
    let s = c.args.sheet in
    let u = pass-of s.accepted s.netlist.own c.requires.0 c.loop-k-test.true c.loop-k.invariant.0 c.record-record.ensures in
    let l = pass-end-le u c.entry_count.result c.entry_count.ensures.0 in
    omega arith

pub slice_bounds-write_net-end-in-loop-k : goal.slice_bounds-write_net-end-in-loop-k
slice_bounds-write_net-end-in-loop-k c =
    let s = c.args.sheet in
    let u = pass-of s.accepted s.netlist.own c.requires.0 c.loop-k-test.true c.loop-k.invariant.0 c.record-record.ensures in
    let l = pass-end-le u c.entry_count.result c.entry_count.ensures.0 in
    let k = c.loop-k.invariant.1.kept in
    let r = c.requires in
    omega (arith, r.1, r.0)

pub write_net-requires : goal.write_net-requires
write_net-requires c =
    let s = c.args.sheet in
    let u = pass-of s.accepted s.netlist.own c.requires.0 c.loop-k-test.true c.loop-k.invariant.0 c.record-record.ensures in
    let l = pass-end-le u c.entry_count.result c.entry_count.ensures.0 in
    let k = c.loop-k.invariant.1.kept in
    let r = c.requires in
    omega (arith, r.1, r.0, pass-filled u _ c.entry_count.ensures.0)

-- what is left of the net of a pass
left : {s b : List ℕ} {k at z : ℕ} {r : List ℕ} (u : Pass s b k at z r) (n x y : ℕ) → n ≡ size (net_of z r) → y ≡ (net_of z r).number
    → map (left_of (eqb y x)) (take (at + n - at) (drop at b)) ≡ left_part (nets s) x b k
left {s} {b} {k} u n x y e f =
    ap₂ (λ (q : Bool) (ts : List ℕ). map (left_of q) ts)
    (ap (λ (j : ℕ). eqb j x) (f ∙ ap (λ (m : Net). m.number) (pass-net u)))
    (pass-tracks u n e)
    ∙ sym (left_part-map (nets s) x b u.sized k (pass-counted u))

pub loop-k-preserved : goal.loop-k-preserved
loop-k-preserved c =
    let a = c.args in
    let s = a.sheet in
    let u = pass-of s.accepted s.netlist.own c.requires.0 c.loop-k-test.true c.loop-k.invariant.0 c.record-record.ensures in
    let r = c.requires in
    let n = c.entry_count.result in
    let e = c.entry_count.ensures.0 in
    let v = c.write_net.ensures ∙ left u n a.x _ e c.number.ensures.0 in
    let part = left_part (nets s.netlist.bytes.now) a.x a.ticket.now in (
      pass-next u n e,
      parts_more _ (c.loop-k.at + n) c.loop-k.invariant.1
          (joined-more c.loop-k.k part ∙ ap (λ (w : List ℕ). joined c.loop-k.k part ++ w) (sym v))
          (ap length v ∙ left_part-length (nets s.netlist.bytes.now) a.x a.ticket.now c.loop-k.k ∙ sym (ap size (pass-net u)) ∙ sym e ∙ omega arith)
          (omega arith)
          (omega (arith, pass-end-le u n e, r.1, r.0)),
    )

pub returns : goal.returns
unfolding without
returns c =
    let a = c.args in
    let s = a.sheet.netlist in
    let w = readable-trailer s.readable s.trailer s.own in
    let e : c.loop-k.k ≡ length (nets s.bytes.now) = omega (arith, nets-length s.bytes.now) in
    c.loop-k.invariant.1.bytes
    ∙ ap (λ (m : ℕ). overwrite (joined m (left_part (nets s.bytes.now) a.x a.ticket.now)) a.out.now) e
