-- `lines::put_nets` meets its contract: the loop's invariant is that the lines of the first k nets are written, and `first` is the first byte of net k.
-- Assumes nothing.
use mathlib.Core.Path.{◌≡◌, sym, ◌∙◌}
use native.Mathlib.Omega.{arith}
use lib.ListN.{length}
use Rattle.std.proofs.Common.{rules}
use Rattle.netlist.specs.declared.Sheet.{Sheet}
use Rattle.netlist.specs.Netlist.{nets}
use Rattle.netlist.proofs.NetlistLaws.{trailer-fields, nets-length}
use Rattle.decimal.proofs.PutLaws.{appended-none}
use Rattle.assignment.proofs.AssignmentLaws.{first_byte-none, pass-of, pass-end-le, pass-next, pass-filled}
use Rattle.lines.specs.Lines.{net_lines}
use Rattle.lines.proofs.LinesLaws.{grown-none, grown-room, grown-more, grown-all, pass-line}
use Rattle.lines.proofs.put_nets.Goals as goal

-- the trailer's net count is that of the list
counted : (sheet : Sheet) → sheet.netlist.trailer.nets ≡ length (nets sheet.netlist.bytes.now)
counted sheet =
    (trailer-fields sheet.netlist.bytes.now sheet.netlist.trailer sheet.netlist.own).0 ∙ sym (nets-length sheet.netlist.bytes.now)

pub loop-k-init : goal.loop-k-init
loop-k-init c = record { start = sym (first_byte-none _); written = grown-none appended-none }

pub overflow_add-last : goal.overflow_add-last
overflow_add-last c =
    let u = pass-of c.args.sheet.accepted c.args.sheet.netlist.own c.requires.sized c.loop-k-test.true c.loop-k.invariant.start c.record-r.ensures in
    let l = pass-end-le u c.entry_count.result c.entry_count.ensures.0 in
    omega arith

pub slice_bounds-put_net-end : goal.slice_bounds-put_net-end
slice_bounds-put_net-end c =
    let u = pass-of c.args.sheet.accepted c.args.sheet.netlist.own c.requires.sized c.loop-k-test.true c.loop-k.invariant.start c.record-r.ensures in
    let l = pass-end-le u c.entry_count.result c.entry_count.ensures.0 in
    search rules

pub put_net-requires : goal.put_net-requires
unfolding net_lines
put_net-requires c =
    let u = pass-of c.args.sheet.accepted c.args.sheet.netlist.own c.requires.sized c.loop-k-test.true c.loop-k.invariant.start c.record-r.ensures in
    let n = counted c.args.sheet in
    record {
      sized = pass-filled u c.entry_count.result c.entry_count.ensures.0;
      room =
          grown-room c.loop-k.invariant.written (length (nets c.args.sheet.netlist.bytes.now)) (omega arith) c.requires.room
          (pass-line u c.entry_count.result c.entry_count.ensures.0);
    }

pub loop-k-preserved : goal.loop-k-preserved
unfolding net_lines
loop-k-preserved c =
    let u = pass-of c.args.sheet.accepted c.args.sheet.netlist.own c.requires.sized c.loop-k-test.true c.loop-k.invariant.start c.record-r.ensures in
    let n = counted c.args.sheet in
    record {
      start = pass-next u c.entry_count.result c.entry_count.ensures.0;
      written =
          grown-more c.loop-k.invariant.written (length (nets c.args.sheet.netlist.bytes.now)) (omega arith) c.requires.room
          (pass-line u c.entry_count.result c.entry_count.ensures.0) c.put_net.ensures;
    }

pub returns : goal.returns
unfolding net_lines
returns c =
    let n = counted c.args.sheet in
    grown-all c.loop-k.invariant.written (length (nets c.args.sheet.netlist.bytes.now)) (omega arith)
