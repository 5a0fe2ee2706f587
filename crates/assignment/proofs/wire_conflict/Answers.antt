-- `assignment::wire_conflict` meets its contract: the marks hold the wires of the nets and the entries passed, by `Marked`, so that a wire
-- found held is one of an earlier net. Assumes nothing.
use mathlib.Core.Path.{◌≡◌, refl, sym, ◌∙◌}
use native.Mathlib.Omega.{arith}
use Rattle.netlist.proofs.NetlistLaws.{readable-trailer, nets-length}
use Rattle.assignment.proofs.AssignmentLaws.{first_byte-none, pass-of, pass-counted, pass-end-le, pass-next}
use Rattle.assignment.proofs.WireLaws.{marked-none, marked_more, marked-twice, marked-net, marked_all}
use Rattle.assignment.proofs.WireLaws.{looking-of, looking-count, looking-inside, looking-differ, looking-wire}
use Rattle.assignment.proofs.wire_conflict.Goals as goal

pub nets-init : goal.nets-init
nets-init c = (sym (first_byte-none _), refl, marked-none _ _ _)

pub overflow_add-end : goal.overflow_add-end
overflow_add-end c =
    let s = c.args.sheet in
    let u = pass-of s.accepted s.netlist.own c.requires.whole c.nets-test.true c.nets.invariant.0 c.record-record.ensures in
    let l = pass-end-le u c.entry_count.result c.entry_count.ensures.0 in
    omega arith

pub slice_bounds-ts-end : goal.slice_bounds-ts-end
slice_bounds-ts-end c =
    let s = c.args.sheet in
    let u = pass-of s.accepted s.netlist.own c.requires.whole c.nets-test.true c.nets.invariant.0 c.record-record.ensures in
    let l = pass-end-le u c.entry_count.result c.entry_count.ensures.0 in
    omega arith

pub channel-c-requires : goal.channel-c-requires
channel-c-requires c =
    let s = c.args.sheet in
    let u = looking-of s.accepted s.netlist.own c.requires.whole c.requires.in_range c.nets-test.true c.nets.invariant.0 c.record-record.ensures c.entry_count.ensures.0 c.wire_count-i-end.ensures in
    (looking-inside u c.loop-i.i c.loop-i-test.true).0

pub byte_at-t-requires : goal.byte_at-t-requires
byte_at-t-requires c =
    let s = c.args.sheet in
    let u = looking-of s.accepted s.netlist.own c.requires.whole c.requires.in_range c.nets-test.true c.nets.invariant.0 c.record-record.ensures c.entry_count.ensures.0 c.wire_count-i-end.ensures in
    (looking-inside u c.loop-i.i c.loop-i-test.true).1

pub is_held-requires : goal.is_held-requires
is_held-requires c =
    let s = c.args.sheet in
    let u = looking-of s.accepted s.netlist.own c.requires.whole c.requires.in_range c.nets-test.true c.nets.invariant.0 c.record-record.ensures c.entry_count.ensures.0 c.wire_count-i-end.ensures in
    let w = looking-wire u c.loop-i.i _ _ c.loop-i-test.true c.channel-c.ensures.0 c.byte_at-t.ensures.0 in
    (w.channel-lt, w.track-lt)

pub hold-requires : goal.hold-requires
hold-requires c =
    let s = c.args.sheet in
    let u = looking-of s.accepted s.netlist.own c.requires.whole c.requires.in_range c.nets-test.true c.nets.invariant.0 c.record-record.ensures c.entry_count.ensures.0 c.wire_count-i-end.ensures in
    let w = looking-wire u c.loop-i.i _ _ c.loop-i-test.true c.channel-c.ensures.0 c.byte_at-t.ensures.0 in
    (w.channel-lt, w.track-lt, sym c.is_held.ensures ∙ c.if-is_held.false)

pub loop-i-preserved : goal.loop-i-preserved
loop-i-preserved c =
    let s = c.args.sheet in
    let u = looking-of s.accepted s.netlist.own c.requires.whole c.requires.in_range c.nets-test.true c.nets.invariant.0 c.record-record.ensures c.entry_count.ensures.0 c.wire_count-i-end.ensures in
    let w = looking-wire u c.loop-i.i _ _ c.loop-i-test.true c.channel-c.ensures.0 c.byte_at-t.ensures.0 in
    let i = c.loop-i.invariant in
    let f = sym c.is_held.ensures ∙ c.if-is_held.false in
    (i.0, rw (c.hold.ensures) (marked_more _ _ _ i.1 _ w.own w.channel-lt f))

pub nets-preserved : goal.nets-preserved
nets-preserved c =
    let s = c.args.sheet in
    let u = looking-of s.accepted s.netlist.own c.requires.whole c.requires.in_range c.nets-test.true c.nets.invariant.0 c.record-record.ensures c.entry_count.ensures.0 c.wire_count-i-end.ensures in
    let i = c.loop-i.invariant in
    let e : c.loop-i.i ≡ c.wire_count-i-end.result = omega arith in (
      pass-next u.pass _ u.filled,
      i.0,
      marked-net _ _ _ (rw (e ∙ looking-count u) at i.1),
    )

pub returns-after-nets : goal.returns-after-nets
returns-after-nets c =
    let s = c.args.sheet.netlist in
    let w = readable-trailer s.readable s.trailer s.own in
    let i = c.nets.invariant in
    i.1 ∙ sym (marked_all _ _ _ i.2 (omega (arith, nets-length s.bytes.now)))

pub returns-then-is_held : goal.returns-then-is_held
returns-then-is_held c =
    let s = c.args.sheet in
    let u = looking-of s.accepted s.netlist.own c.requires.whole c.requires.in_range c.nets-test.true c.nets.invariant.0 c.record-record.ensures c.entry_count.ensures.0 c.wire_count-i-end.ensures in
    let w = looking-wire u c.loop-i.i _ _ c.loop-i-test.true c.channel-c.ensures.0 c.byte_at-t.ensures.0 in
    let i = c.loop-i.invariant in
    let f = sym c.is_held.ensures ∙ c.if-is_held.true in
    sym (marked-twice _ _ _ i.1 _ w.own (pass-counted u.pass) w.inside (looking-differ u) f)
