use mathlib.Core.Path.{◌≡◌}
use Prim.Native.Nat.{◌≤◌}
use Rattle.bounded.proofs.BoundedLaws.{Passed}
use Rattle.netlist.specs.Netlist.{net_count, start_of, record_fits}
use Rattle.reader.proofs.Measured.bad_directory.Given as goal

abbrev pub invariant-loop-k : goal.invariant-loop-k
invariant-loop-k l = Passed (net_count l.self.bytes.now) (record_fits l.self.bytes.now) l.k × (l.at ≡ start_of l.self.bytes.now l.k) × (l.at ≤ l.directory)
