-- `ticket_promises::check_written` meets its contract: Read's entry count is where the ticket ends. Assumes nothing.
use mathlib.Core.Path.{sym, ap, ◌∙◌}
use Prim.Native.Nat.{ℕ}
use native.Mathlib.Omega.{arith}
use lib.ListN.{take}
use lib.Seq.{length-take-le}
use Rattle.assignment.specs.Check.{check_of}
use Rattle.ticket_promises.proofs.check_written.Goals as goal

pub slice_bounds-check-end : goal.slice_bounds-check-end
slice_bounds-check-end c =
    let p = c.requires in
    sym (length-take-le c.entries_of-entries.result c.args.out.now (omega (arith, p.1, c.entries_of-entries.ensures)))

pub returns : goal.returns
returns c =
    let a = c.args in
    c.check.ensures ∙ ap (λ (n : ℕ). check_of a.on.now a.d.now (take n a.out.now)) c.entries_of-entries.ensures
