-- `wires::map_table` meets its contract: the loop's invariant is that the places before i have their tracks. Assumes nothing.
use mathlib.Core.Path.{◌∙◌}
use native.Mathlib.Omega.{arith}
use lib.ListN.{length-set}
use Rattle.wires.proofs.TablesLaws.{map_table-more, map_table-skip}
use Rattle.wires.proofs.map_table.Goals as goal
use Rattle.wires.proofs.map_table.Goals.{then-i-w, else-i-w}

pub loop-i-preserved : goal.loop-i-preserved
loop-i-preserved c =
    let l = c.loop-i in
    elim c.if-i-w.branch [
      | then-i-w w ↦
          rw w.tracks-is (
            length-set l.tracks l.i w.mapped_by.result ∙ l.invariant.0,
            rw w.mapped_by.ensures.0 (map_table-more l.invariant.1 (omega arith)),
          )
      | else-i-w w ↦ rw w.tracks-is (l.invariant.0, map_table-skip l.invariant.1 w.if-i-w.false)
    ]

pub returns : goal.returns
returns c = record { at = λ i h s. c.loop-i.invariant.1.at i (omega arith) s }
