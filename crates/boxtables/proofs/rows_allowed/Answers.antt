-- `boxtables::rows_allowed` meets its contract: each column is tested, by `every_from_all`. Assumes nothing.
use mathlib.Core.Path.{refl}
use Rattle.std.proofs.Common.{rules, tests}
use Rattle.bounded.proofs.Listed.{every_from_all}
use Rattle.switchbox.specs.SwitchBox.{column_count, row_allowed, rows_allowed}
use Rattle.boxtables.proofs.rows_allowed.Goals as goal

pub returns : goal.returns
unfolding rows_allowed
returns c = every_from_all column_count (row_allowed c.args.rows) c.all.ensures.ran refl (λ x b q k. search (rules, tests))
