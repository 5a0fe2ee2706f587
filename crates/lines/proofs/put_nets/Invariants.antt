use mathlib.Core.Path.{◌≡◌}
use mathlib.Core.List.{[]}
use Rattle.netlist.specs.Netlist.{nets}
use Rattle.assignment.specs.Assignment.{first_byte}
use Rattle.lines.proofs.LinesLaws.{Grown, line_in}
use Rattle.lines.proofs.put_nets.Given as goal

abbrev pub invariant-loop-k : goal.invariant-loop-k
invariant-loop-k l = record {
  start : l.first ≡ first_byte (nets l.sheet.netlist.bytes.now) l.k;
  written : Grown [] (line_in (nets l.sheet.netlist.bytes.now) l.ticket) l.k l.initial.text l.text;
}
