-- `removal::take_out` meets its contract: a refusal writes nothing; else the ticket has one byte per entry, and there is room for it. Assumes
-- nothing.
use Rattle.std.proofs.Common.{sym, ap, ◌∙◌, List, ℕ, []}
use Rattle.numbers.proofs.RefusalsLaws.{no_of-positive}
use Rattle.netlist.specs.Netlist.{nets}
use Rattle.assignment.proofs.CheckLaws.{number-partly}
use Rattle.routing.specs.Outcomes.{lent, overwrite, width_in}
use Rattle.routing.specs.Remove.{without}
use Rattle.routing.proofs.RemoveLaws.{remove_number-zero, remove_output-zero, remove_output-refused}
use Rattle.removal.proofs.take_out.Goals as goal

pub returns-in_err-sheet-clause-output : goal.returns-in_err-sheet-clause-output
returns-in_err-sheet-clause-output c =
    let a = c.args in
    sym (remove_output-refused (lent a.s.now [] a.ticket.now 0 a.out.now) a.x (λ z. no_of-positive _ (c.in_err-sheet.ensures.number ∙ z)))

pub write_without-requires : goal.write_without-requires
write_without-requires c =
    let a = c.args in
    let i = lent a.s.now [] a.ticket.now 0 a.out.now in
    let A = remove_number-zero i a.x (sym c.in_ok-sheet.ensures.number) in
    rw (c.in_ok-sheet.ensures.sheet) ((number-partly i.sheet [] (width_in i) i.old A.ticket).whole, A.space)

pub returns-clause-output : goal.returns-clause-output
returns-clause-output c =
    let a = c.args in
    let i = lent a.s.now [] a.ticket.now 0 a.out.now in
    c.write_without.ensures
    ∙ ap (λ (s : List ℕ). overwrite (without (nets s) a.x i.old) i.out) c.in_ok-sheet.ensures.sheet
    ∙ sym (remove_output-zero i a.x (sym c.in_ok-sheet.ensures.number))
