-- `remove_promises::remove_written` meets its contract: Read's entry count is where the ticket ends. Assumes nothing.
use mathlib.Core.Path.{sym, subst}
use Prim.Native.Nat.{ℕ}
use mathlib.Core.List.{[]}
use native.Mathlib.Omega.{arith}
use lib.ListN.{take}
use lib.Seq.{length-take-le}
use Rattle.routing.specs.Outcomes.{lent}
use Rattle.answers.specs.Removing.{Took}
use Rattle.remove_promises.proofs.remove_written.Goals as goal

pub slice_bounds-remove-end : goal.slice_bounds-remove-end
slice_bounds-remove-end c =
    let p = c.requires in
    sym (length-take-le c.entries_of-entries.result c.args.new.now (omega (arith, p.1, c.entries_of-entries.ensures)))

pub returns : goal.returns
returns c =
    let a = c.args in
    subst (λ (n : ℕ). Took (lent a.s.now [] (take n a.new.now) 0 a.out.now) a.net c.remove.result c.remove.new.out)
    c.entries_of-entries.ensures c.remove.ensures
