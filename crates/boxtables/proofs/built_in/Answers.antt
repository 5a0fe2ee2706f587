-- `boxtables::built_in` meets its contract: the constant table is the generator's output, `switches-generated`, at each kind. Assumes nothing.
use native.Mathlib.Omega.{arith}
use Prim.Native.Nat.{ℕ, zero, suc, ◌<◌}
use mathlib.Core.Path.{◌≡◌, refl}
use mathlib.Core.List.{[]}
use lib.ListN.{get_or}
use Rattle.switchbox.specs.declared.Table.{Table}
use Rattle.switchbox.specs.Generator.{generated, published}
use Rattle.switchbox.proofs.GeneratorLaws.{switches, switches-generated}
use Rattle.boxtables.specs.declared.TheConstants.{SWITCH}
use Rattle.boxtables.proofs.built_in.Goals as goal

-- a table that the law has at each kind
at-each : (table : ℕ → Table) → table 0 ≡ (generated (published 0)).table → table 1 ≡ (generated (published 1)).table
    → table 2 ≡ (generated (published 2)).table → (kind : ℕ) → kind < 3 → table kind ≡ (generated (published kind)).table
at-each table a b c zero h = a
at-each table a b c (suc zero) h = b
at-each table a b c (suc (suc zero)) h = c
at-each table a b c (suc (suc (suc kind))) h = absurd (omega arith)

pub returns : goal.returns
unfolding switches
returns c = at-each (λ (k : ℕ). get_or SWITCH k (record { signs = []; shifts = [] })) (switches-generated 0 (omega arith)) (switches-generated 1 (omega arith)) (switches-generated 2 (omega arith)) c.args.kind c.requires
