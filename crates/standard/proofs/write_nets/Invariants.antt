use Prim.Native.Nat.{◌*◌}
use Rattle.netlist.specs.Netlist.{mark_of}
use Rattle.encoding.specs.Encoding.{records_to, offsets_to}
use Rattle.routing.proofs.OverwriteLaws.{PartsWritten}
use Rattle.canonical.specs.Canonical.{canonical_nets}
use Rattle.standard.proofs.write_nets.Given as goal

abbrev pub invariant-loop-k : goal.invariant-loop-k
invariant-loop-k l = record {
  records : PartsWritten (records_to (mark_of l.sheet.netlist.bytes.now) (canonical_nets l.sheet.netlist.bytes.now)) l.initial.records l.records l.k l.at;
  offsets : PartsWritten (offsets_to (mark_of l.sheet.netlist.bytes.now) (canonical_nets l.sheet.netlist.bytes.now)) l.initial.directory l.directory l.k (2 * l.k);
}
