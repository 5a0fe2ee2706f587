use mathlib.Core.Path.{◌≡◌}
use Prim.Native.Nat.{◌*◌, ◌≤◌}
use lib.ListN.{take}
use Rattle.net.specs.Nets.{entry_count}
use Rattle.netlist.specs.Netlist.{nets}
use Rattle.netlist.proofs.Netlist.entry_total.Given as goal

abbrev pub invariant-loop-k : goal.invariant-loop-k
invariant-loop-k l = (l.total ≡ entry_count (take l.k (nets l.self.bytes.now))) × (l.total ≤ 32 * l.k)
