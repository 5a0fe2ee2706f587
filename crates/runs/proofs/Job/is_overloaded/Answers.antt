-- `runs::Job::is_overloaded` meets its contract: the plan's loads count the sheet's nets. Assumes nothing.
use mathlib.Core.Path.{ap, ◌∙◌}
use Rattle.grid.specs.Grid.{channel_count}
use Rattle.runs.proofs.RanLaws.{job-over}
use Rattle.runs.proofs.Job.is_overloaded.Goals as goal

pub returns : goal.returns
returns c = job-over c.args.self c.args.w (c.channel_count-channels.ensures ∙ ap channel_count c.chip.ensures) c.over_capacity.ensures
