-- `standard::write_nets` meets its contract: the loop's invariant is that the records and the offsets of the first k nets in rising net number are
-- written. Assumes nothing.
use mathlib.Core.Path.{◌≡◌, sym, ap, ◌∙◌}
use mathlib.Core.List.{List, ◌++◌}
use Prim.Native.Nat.{ℕ, ◌+◌, ◌*◌, ◌≤◌}
use native.Mathlib.Omega.{arith}
use lib.ListN.{length}
use Rattle.net.specs.Nets.{net_in}
use Rattle.netlist.specs.declared.Sheet.{Sheet}
use Rattle.netlist.specs.Netlist.{max_sheet, mark_of}
use Rattle.netlist.proofs.NetlistLaws.{trailer-fields}
use Rattle.encoding.specs.Encoding.{u16_bytes, records_to, offsets_to, start_at}
use Rattle.encoding.proofs.RecordLaws.{record_from-length, u16_bytes-length}
use Rattle.encoding.proofs.EncodingLaws.{records_to-none, records_to-more, offsets_to-none, offsets_to-more}
use Rattle.routing.proofs.OverwriteLaws.{parts_none, parts_more, overwrite-all}
use Rattle.canonical.specs.Canonical.{canonical_nets}
use Rattle.standard.proofs.PartLaws.{part_length}
use Rattle.standard.proofs.PassLaws.{count_kept, directory-kept, turn, Pass, pass_here, pass-tree, pass-written, pass-marked, pass-end-le}
use Rattle.standard.proofs.write_nets.Goals as goal

-- a record ends within the part
ends : (sheet : Sheet) {order r : List ℕ} {k at z : ℕ} → Pass sheet.netlist.bytes.now order k at z r → (part : List ℕ)
    → length part ≡ sheet.netlist.trailer.directory → (at + length r ≤ length part) × (length part ≤ max_sheet)
ends sheet u part m =
    let t = trailer-fields sheet.netlist.bytes.now sheet.netlist.trailer sheet.netlist.own in
    let e = pass-end-le u in
    (omega arith, omega arith)

pub loop-k-init : goal.loop-k-init
loop-k-init c = record { records = parts_none (records_to-none _ _); offsets = parts_none (offsets_to-none _ _) }

pub bounds-order-k : goal.bounds-order-k
bounds-order-k c = (turn c.args.sheet _ _ c.rising_order-order.ensures c.loop-k-test.true).few

pub record-record-requires : goal.record-record-requires
record-record-requires c = (turn c.args.sheet _ _ c.rising_order-order.ensures c.loop-k-test.true).listed

pub overflow_add-end : goal.overflow_add-end
overflow_add-end c =
    let l = c.loop-k in
    let u = pass_here c.args.sheet c.rising_order-order.ensures c.loop-k-test.true (sym l.invariant.records.count) c.record-record.ensures in
    let e = ends c.args.sheet u _ c.requires.records in
    omega arith

pub slice_bounds-write-end : goal.slice_bounds-write-end
slice_bounds-write-end c =
    let l = c.loop-k in
    let u = pass_here c.args.sheet c.rising_order-order.ensures c.loop-k-test.true (sym l.invariant.records.count) c.record-record.ensures in
    (ends c.args.sheet u l.records (l.invariant.records.kept ∙ c.requires.records)).0

pub invariant_of-write : goal.invariant_of-write
invariant_of-write c =
    let l = c.loop-k in
    let u = pass_here c.args.sheet c.rising_order-order.ensures c.loop-k-test.true (sym l.invariant.records.count) c.record-record.ensures in
    record { tree = pass-tree u }

pub put_u16-requires : goal.put_u16-requires
put_u16-requires c =
    let l = c.loop-k in
    let u = pass_here c.args.sheet c.rising_order-order.ensures c.loop-k-test.true (sym l.invariant.records.count) c.record-record.ensures in
    let e = ends c.args.sheet u _ c.requires.records in
    (part_length l.directory (2 * l.k) 2 (omega (arith, l.invariant.offsets.kept, c.requires.offsets)), omega arith)

pub loop-k-preserved : goal.loop-k-preserved
loop-k-preserved c =
    let l = c.loop-k in
    let s = c.args.sheet.netlist.bytes.now in
    let mark = mark_of s in
    let ns = canonical_nets s in
    let r = c.record-record.result.bytes.now in
    let u = pass_here c.args.sheet c.rising_order-order.ensures c.loop-k-test.true (sym l.invariant.records.count) c.record-record.ensures in
    let e = ends c.args.sheet u _ c.requires.records in
    let v = c.write.ensures ∙ pass-written u c.requires.bytes in
    let o = c.put_u16.ensures ∙ ap u16_bytes u.start in
    let d : 2 * (l.k + 1) ≡ 2 * l.k + 2 = omega arith in
    record {
      records =
          parts_more _ (l.at + length r) l.invariant.records
          (records_to-more mark ns l.k ∙ ap (λ (w : List ℕ). records_to mark ns l.k ++ w) (sym v))
          (ap length v ∙ record_from-length mark (net_in ns l.k) ∙ sym (pass-marked u) ∙ omega arith)
          (omega arith)
          e.0;
      offsets =
          rw d
          (parts_more _ (2 * l.k + 2) l.invariant.offsets
          (offsets_to-more mark ns l.k ∙ ap (λ (w : List ℕ). offsets_to mark ns l.k ++ w) (sym o))
          (ap length o ∙ u16_bytes-length (start_at mark ns l.k) ∙ omega arith)
          (omega arith)
          (omega (arith, c.requires.offsets)));
    }

pub returns-clause-records : goal.returns-clause-records
returns-clause-records c =
    let l = c.loop-k in
    let s = c.args.sheet.netlist.bytes.now in
    let ns = canonical_nets s in
    let t = trailer-fields s c.args.sheet.netlist.trailer c.args.sheet.netlist.own in
    let e : l.k ≡ c.args.sheet.netlist.trailer.nets = omega arith in
    let q : l.k ≡ length ns = omega (arith, count_kept s) in
    l.invariant.records.bytes
    ∙ overwrite-all (records_to (mark_of s) ns l.k) c.args.records.now
    (ap (start_at (mark_of s) ns) q ∙ directory-kept s c.args.sheet.accepted ∙ omega (arith, c.requires.records))
    ∙ ap (records_to (mark_of s) ns) e

pub returns-clause-offsets : goal.returns-clause-offsets
returns-clause-offsets c =
    let l = c.loop-k in
    let s = c.args.sheet.netlist.bytes.now in
    let ns = canonical_nets s in
    let e : l.k ≡ c.args.sheet.netlist.trailer.nets = omega arith in
    l.invariant.offsets.bytes
    ∙ overwrite-all (offsets_to (mark_of s) ns l.k) c.args.directory.now (l.invariant.offsets.count ∙ omega (arith, c.requires.offsets))
    ∙ ap (offsets_to (mark_of s) ns) e
