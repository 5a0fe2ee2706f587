use Rattle.decimal.specs.Decimal.{digits}
use Rattle.net.specs.Read.{net_read}
use Rattle.lines.proofs.LinesLaws.{Grown, entry_in}
use Rattle.lines.proofs.put_net.Given as goal

abbrev pub invariant-loop-i : goal.invariant-loop-i
invariant-loop-i l = Grown (digits (net_read l.r).number) (entry_in (net_read l.r) l.tracks) l.i l.fn.text l.text
