-- `ticket_promises::entries_of` meets its contract: by Read's, of an accepted sheet. Assumes nothing.
use mathlib.Core.Path.{ap, ◌∙◌}
use Rattle.reader.specs.declared.Counts.{Counts}
use Rattle.reader.proofs.ReadLaws.{read_of-accepted}
use Rattle.ticket_promises.proofs.entries_of.Goals as goal

pub returns : goal.returns
returns c =
    ap (λ (x : Counts). x.entries) (c.read-counts.ensures ∙ read_of-accepted c.args.s.now c.requires)
