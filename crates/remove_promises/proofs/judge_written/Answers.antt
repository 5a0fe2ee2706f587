-- `remove_promises::judge_written` meets its contract: Read's entry count is where the ticket ends. Assumes nothing.
use mathlib.Core.Path.{sym, ap, ◌∙◌}
use mathlib.Core.Bool.{true}
use Prim.Native.Nat.{ℕ}
use native.Mathlib.Omega.{arith}
use lib.ListN.{take}
use lib.Seq.{length-take-le}
use Rattle.assignment.specs.Check.{number_on}
use Rattle.remove_promises.proofs.judge_written.Goals as goal

pub slice_bounds-number_on-end : goal.slice_bounds-number_on-end
slice_bounds-number_on-end c =
    let p = c.requires in
    sym (length-take-le c.entries_of-entries.result c.args.out.now (omega (arith, p.1, c.entries_of-entries.ensures)))

pub returns : goal.returns
returns c =
    let a = c.args in
    c.number_on.ensures ∙ ap (λ (n : ℕ). number_on true a.s.now a.d.now (take n a.out.now)) c.entries_of-entries.ensures
