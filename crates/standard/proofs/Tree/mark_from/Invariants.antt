use Rattle.canonical.specs.Facts.{written_of}
use Rattle.net.specs.Read.{net_read}
use Rattle.standard.proofs.MarkLaws.{MarkedTo}
use Rattle.standard.proofs.Tree.mark_from.Given as goal

abbrev pub invariant-loop-i : goal.invariant-loop-i
invariant-loop-i l = MarkedTo (net_read l.self.record) (written_of (net_read l.self.record) l.k) l.j l.i l.marks
