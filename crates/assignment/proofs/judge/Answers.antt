-- `assignment::judge` meets its contract: the opening's number comes first; where it refuses nothing, the assignment's, with the broken wires
-- that the list has. Assumes nothing.
use Rattle.std.proofs.Common.{◌≡◌, refl, sym, ap, ◌∙◌, ℕ, Bool, List}
use Rattle.std.proofs.lemmas.Result.{err_from_is_err_and}
use Rattle.numbers.specs.Numbers.{first_number}
use Rattle.numbers.proofs.NumbersLaws.{first_number-rest}
use Rattle.numbers.proofs.RefusalsLaws.{first_number-refused}
use Rattle.grid.specs.Grid.{Wire}
use Rattle.marks.specs.Marks.{marked_in}
use Rattle.netlist.specs.Netlist.{width_of, nets}
use Rattle.defects.specs.Defects.{is_dead}
use Rattle.opening.specs.Opened.{open_conditions}
use Rattle.assignment.specs.Assignment.{ticket_conditions}
use Rattle.assignment.specs.Check.{number_on}
use Rattle.assignment.specs.Board.{board_with, board_of}
use Rattle.assignment.specs.Facts.{assignment_number}
use Rattle.assignment.proofs.judge.Goals as goal

-- the number of an assignment, beside a sheet and a list that were opened
tested : (partial : Bool) (s d b : List ℕ) (m : List ℕ) {t : List ℕ} {n : ℕ} → 0 ≡ first_number (open_conditions s d) → (t ≡ s) × (marked_in m ≡ is_dead d)
    → n ≡ assignment_number partial (board_with t (marked_in m)) (width_of t) (nets t) b → n ≡ number_on partial s d b
unfolding number_on assignment_number
tested partial s d b m {t} z own h =
    h
    ∙ ap (λ (broken : Wire → Bool). assignment_number partial (board_with t broken) (width_of t) (nets t) b) own.1
    ∙ ap (λ (x : List ℕ). assignment_number partial (board_of x d) (width_of x) (nets x) b) own.0
    ∙ sym (first_number-rest (open_conditions s d) (ticket_conditions partial (board_of s d) (width_of s) (nets s) b) refl (sym z))

pub returns-in_err-inputs-clause-number : goal.returns-in_err-inputs-clause-number
unfolding number_on
returns-in_err-inputs-clause-number c =
    let a = c.args in
    let s = a.s.now in
    let p = err_from_is_err_and c.from_residual.result c.from_residual.ensures.1 in
    rw (p.1, p.2)
    (first_number-refused (open_conditions s a.d.now) (ticket_conditions a.partial (board_of s a.d.now) (width_of s) (nets s) a.b.now) refl _ c.in_err-inputs.ensures.number)

pub returns-in_err-judge_tracks-clause-number : goal.returns-in_err-judge_tracks-clause-number
returns-in_err-judge_tracks-clause-number c =
    let a = c.args in
    let p = err_from_is_err_and c.from_residual-in_err-judge_tracks.result c.from_residual-in_err-judge_tracks.ensures.1 in
    let i = c.in_ok-inputs in
    rw (p.1, p.2) (tested a.partial a.s.now a.d.now a.b.now _ i.ensures.number i.ensures.inputs c.in_err-judge_tracks.ensures)

pub returns-clause-number : goal.returns-clause-number
returns-clause-number c =
    let a = c.args in
    let i = c.in_ok-inputs in
    tested a.partial a.s.now a.d.now a.b.now _ i.ensures.number i.ensures.inputs c.in_ok-judge_tracks.ensures
