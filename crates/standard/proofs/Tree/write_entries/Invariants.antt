use Prim.Native.Nat.{◌*◌}
use Rattle.bounded.specs.Bounded.{joined}
use Rattle.encoding.specs.Encoding.{entry_bytes}
use Rattle.routing.proofs.OverwriteLaws.{PartsWritten}
use Rattle.canonical.specs.Canonical.{canonical_net}
use Rattle.canonical.specs.Facts.{written_of}
use Rattle.standard.specs.Growth.{Marked}
use Rattle.net.specs.Read.{net_read}
use Rattle.standard.proofs.Tree.write_entries.Given as goal

abbrev pub invariant-loop-k : goal.invariant-loop-k
invariant-loop-k l = record {
  marked : Marked (net_read l.self.record) (written_of (net_read l.self.record) l.k) l.marks;
  written : PartsWritten (λ j. joined j (entry_bytes (canonical_net (net_read l.self.record)))) l.initial.part l.part l.k (4 * l.k);
}
