-- `switchbox_promises::built_in_generated` meets its contract: the built-in table is the generator's output, by both calls' contracts, and
-- so undone from the other end, `built-in-inverse`.
-- Assumes nothing.
use mathlib.Core.Path.{sym, subst, ap, ◌∙◌}
use Prim.Native.Nat.{ℕ}
use Rattle.numbers.proofs.RefusalsLaws.{accepted}
use Rattle.switchbox.specs.Generator.{published_rows, Generated, generated, published}
use Rattle.switchbox.specs.Facts.{Undone}
use Rattle.switchbox.proofs.RowLaws.{published-allowed}
use Rattle.switchbox.proofs.GeneratorLaws.{generated-made, built-in-inverse}
use Rattle.switchbox_promises.specs.Tables.{kind_of}
use Rattle.switchbox_promises.proofs.TablesLaws.{kind_of-tag, kind_of-lt}
use Rattle.switchbox_promises.proofs.built_in_generated.Goals as goal

pub returns-clause-table : goal.returns-clause-table
returns-clause-table c = c.built_in-built_in.ensures ∙ ap (λ (k : ℕ). (generated (published k)).table) (kind_of-tag c.args.kind)

pub returns-clause-inverse : goal.returns-clause-inverse
returns-clause-inverse c = subst Undone (sym (returns-clause-table c)) (built-in-inverse (kind_of c.args.kind) (kind_of-lt c.args.kind))

pub returns-clause-output : goal.returns-clause-output
unfolding published_rows
returns-clause-output c =
    let k = kind_of-tag c.args.kind in
    let made = generated-made (published (kind_of c.args.kind)) (published-allowed (kind_of c.args.kind) (kind_of-lt c.args.kind)) in
    accepted c.generate-generated.result
    (c.generate-generated.ensures.number ∙ ap (λ (k : ℕ). (generated (published k)).number) k ∙ ap (λ (g : Generated). g.number) made)
    (rw c.built_in-built_in.ensures c.generate-generated.ensures.table)
