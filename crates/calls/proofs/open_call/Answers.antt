-- `calls::open_call` meets its contract: the opening's number comes first, then that of the old assignment with the broken wires that the list has,
-- then the output's. Assumes nothing.
use Rattle.std.proofs.Common.{◌≡◌, refl, sym, ap, ◌∙◌, Bool, ℕ, List, length}
use Rattle.std.proofs.lemmas.Result.{err_from_is_err_and}
use Rattle.numbers.specs.Numbers.{first_number, space_conditions}
use Rattle.numbers.proofs.NumbersLaws.{first_number-rest}
use Rattle.numbers.proofs.RefusalsLaws.{no_of-positive, first_number-refused}
use Rattle.grid.specs.Grid.{Wire}
use Rattle.marks.specs.Marks.{marked_in}
use Rattle.net.specs.Nets.{entry_count}
use Rattle.netlist.specs.Netlist.{nets}
use Rattle.defects.specs.Defects.{is_dead}
use Rattle.opening.specs.Opened.{open_conditions}
use Rattle.routing.specs.declared.Call.{Call}
use Rattle.routing.specs.Outcomes.{Inputs, lent, number_before}
use Rattle.routing.proofs.RefusalLaws.{later_conditions}
use Rattle.runs.specs.Runs.{old_number}
use Rattle.calls.proofs.NumberLaws.{number-later, later-old, later-space}
use Rattle.calls.proofs.open_call.Goals as goal

-- past an accepted sheet and list, the number is that of the rest
opened : (x : Call) (i : Inputs) → 0 ≡ first_number (open_conditions i.sheet i.dead) → number_before x i ≡ first_number (later_conditions x i)
opened x i z = number-later x i ∙ first_number-rest (open_conditions i.sheet i.dead) (later_conditions x i) refl (sym z)

-- the number of the old assignment, with the broken wires that the list has
tested : (x : Call) (i : Inputs) (m : List ℕ) {t : List ℕ} {n : ℕ} → (t ≡ i.sheet) × (marked_in m ≡ is_dead i.dead)
    → n ≡ old_number x t (marked_in m) i.old → n ≡ old_number x i.sheet (is_dead i.dead) i.old
tested x i m {t} own e =
    e
    ∙ ap (λ (broken : Wire → Bool). old_number x t broken i.old) own.1
    ∙ ap (λ (a : List ℕ). old_number x a (is_dead i.dead) i.old) own.0

pub returns-in_err-inputs-clause-number : goal.returns-in_err-inputs-clause-number
returns-in_err-inputs-clause-number c =
    let a = c.args in
    let i = lent a.s.now a.d.now a.old.now 0 a.out.now in
    let p = err_from_is_err_and c.from_residual.result c.from_residual.ensures.1 in
    rw (p.1, p.2)
    (first_number-refused (open_conditions i.sheet i.dead) (later_conditions a.call i) refl _ c.in_err-inputs.ensures.number
    ∙ sym (number-later a.call i))

pub returns-in_err-judge_old-clause-number : goal.returns-in_err-judge_old-clause-number
returns-in_err-judge_old-clause-number c =
    let a = c.args in
    let i = lent a.s.now a.d.now a.old.now 0 a.out.now in
    let p = err_from_is_err_and c.from_residual-in_err-judge_old.result c.from_residual-in_err-judge_old.ensures.1 in
    let o = c.in_ok-inputs in
    let t = tested a.call i _ o.ensures.inputs c.in_err-judge_old.ensures in
    rw (p.1, p.2) (t ∙ sym (opened a.call i o.ensures.number ∙ later-old a.call i (λ z. no_of-positive _ (t ∙ z))))

-- the number of the output's space
room : (x : Call) (i : Inputs) (m : List ℕ) {t : List ℕ} {n : ℕ} → 0 ≡ first_number (open_conditions i.sheet i.dead) → (t ≡ i.sheet) × (marked_in m ≡ is_dead i.dead)
    → 0 ≡ old_number x t (marked_in m) i.old
    → n ≡ first_number (space_conditions (entry_count (nets t)) (length i.out)) → n ≡ number_before x i
room x i m z own e h =
    h
    ∙ ap (λ (a : List ℕ). first_number (space_conditions (entry_count (nets a)) (length i.out))) own.0
    ∙ sym (opened x i z ∙ later-space x i (sym (tested x i m own e)))

pub returns-in_err-judge_space-clause-number : goal.returns-in_err-judge_space-clause-number
returns-in_err-judge_space-clause-number c =
    let a = c.args in
    let i = lent a.s.now a.d.now a.old.now 0 a.out.now in
    let p = err_from_is_err_and c.from_residual-in_err-judge_space.result c.from_residual-in_err-judge_space.ensures.1 in
    let o = c.in_ok-inputs in
    rw (p.1, p.2) (room a.call i _ o.ensures.number o.ensures.inputs c.in_ok-judge_old.ensures c.in_err-judge_space.ensures)

pub returns-clause-number : goal.returns-clause-number
returns-clause-number c =
    let a = c.args in
    let i = lent a.s.now a.d.now a.old.now 0 a.out.now in
    let o = c.in_ok-inputs in
    room a.call i _ o.ensures.number o.ensures.inputs c.in_ok-judge_old.ensures c.in_ok-judge_space.ensures
