-- `removal::judge` meets its contract: the numbers of the sheet and the ticket come first, those of the empty list never; then 17, then the
-- output's. Assumes nothing.
use Rattle.std.proofs.Common.{◌≡◌, refl, sym, ap, ◌∙◌, ℕ, Bool, true, false, List, [], ◌++◌, length}
use Rattle.std.proofs.lemmas.Result.{err_from_is_err_and}
use Rattle.numbers.specs.Numbers.{first_number, space_conditions, stranger_no}
use Rattle.numbers.proofs.NumbersLaws.{first_number-append, first_number-rest, or_number, or_number-second}
use Rattle.numbers.proofs.RefusalsLaws.{first_number-refused}
use Rattle.net.specs.Nets.{entry_count}
use Rattle.netlist.specs.Netlist.{sheet_conditions, channels_of, nets}
use Rattle.defects.specs.Defects.{list_conditions}
use Rattle.defects.specs.Facts.{list_number}
use Rattle.defects.proofs.DefectsLaws.{list_number-none}
use Rattle.assignment.specs.Check.{number_on}
use Rattle.assignment.specs.Facts.{assignment_number}
use Rattle.assignment.proofs.CheckLaws.{number_on-zero}
use Rattle.routing.specs.Outcomes.{Inputs, lent, with_dead, unknown_net}
use Rattle.routing.specs.Remove.{remove_number}
use Rattle.routing.proofs.RemoveLaws.{old_number-own, remove_number-accepted, late-unknown, late-known, stranger_conditions, own_conditions}
use Rattle.routing.proofs.RefusalLaws.{old_conditions}
use Rattle.removal.proofs.judge.Goals as goal

-- the conditions of Remove before 17
abbrev early : Inputs → List (ℕ × Bool)
early i = sheet_conditions i.sheet ++ own_conditions i

-- 19, 20 and 21, which stand between them in what is tested, do not apply with the empty list
tested : (i : Inputs) → number_on true i.sheet [] i.old ≡ first_number (early i)
unfolding number_on list_number assignment_number
tested i =
    let sheet = sheet_conditions i.sheet in
    let list = list_conditions (channels_of i.sheet) [] in
    let ticket = old_conditions (with_dead i []) in
    first_number-append sheet (list ++ ticket) refl
    ∙ ap (or_number (first_number sheet)) (first_number-rest list ticket refl (list_number-none (channels_of i.sheet)) ∙ old_number-own i)
    ∙ sym (first_number-append sheet (own_conditions i) refl)

-- where none of these numbers applies, the number is one of the others
module _ (i : Inputs) (x : ℕ) {s : List ℕ} (z : 0 ≡ number_on true i.sheet [] i.old) (own : s ≡ i.sheet) where
  late : remove_number i x ≡ first_number (stranger_conditions i x)
  late =
      let r = number_on-zero true i.sheet [] i.old (sym z) in
      remove_number-accepted i x r.0 ∙ or_number-second _ _ r.2

  module _ {unknown : Bool} (e : unknown ≡ unknown_net (nets s) x) where
    found : {y : Bool} → unknown ≡ y → unknown_net (nets i.sheet) x ≡ y
    found h = sym (e ∙ ap (λ (t : List ℕ). unknown_net (nets t) x) own) ∙ h

    stranger : unknown ≡ true → stranger_no ≡ remove_number i x
    stranger h = sym (late ∙ late-unknown i x (found h))

    spaced : {n : ℕ} → unknown ≡ false → n ≡ first_number (space_conditions (entry_count (nets s)) (length i.out)) → n ≡ remove_number i x
    spaced h f =
        f
        ∙ ap (λ (t : List ℕ). first_number (space_conditions (entry_count (nets t)) (length i.out))) own
        ∙ sym (late ∙ late-known i x (found h))

pub returns-in_err-sheet-clause-number : goal.returns-in_err-sheet-clause-number
unfolding remove_number
returns-in_err-sheet-clause-number c =
    let a = c.args in
    let i = lent a.s.now [] a.ticket.now 0 a.out.now in
    let p = err_from_is_err_and c.from_residual.result c.from_residual.ensures.1 in
    rw (p.1, p.2) (first_number-refused (early i) (stranger_conditions i a.x) refl _ (c.in_err-sheet.ensures.number ∙ tested i))

pub returns-then-is_unknown-clause-number : goal.returns-then-is_unknown-clause-number
returns-then-is_unknown-clause-number c =
    let a = c.args in
    let i = lent a.s.now [] a.ticket.now 0 a.out.now in
    let sheet = c.in_ok-sheet.ensures in
    stranger i a.x sheet.number sheet.sheet c.is_unknown.ensures c.if-is_unknown.true

pub returns-in_err-judge_space-clause-number : goal.returns-in_err-judge_space-clause-number
returns-in_err-judge_space-clause-number c =
    let a = c.args in
    let i = lent a.s.now [] a.ticket.now 0 a.out.now in
    let p = err_from_is_err_and c.from_residual-in_err-judge_space.result c.from_residual-in_err-judge_space.ensures.1 in
    let sheet = c.in_ok-sheet.ensures in
    rw (p.1, p.2) (spaced i a.x sheet.number sheet.sheet c.is_unknown.ensures c.if-is_unknown.false c.in_err-judge_space.ensures)

pub returns-clause-number : goal.returns-clause-number
returns-clause-number c =
    let a = c.args in
    let i = lent a.s.now [] a.ticket.now 0 a.out.now in
    let sheet = c.in_ok-sheet.ensures in
    spaced i a.x sheet.number sheet.sheet c.is_unknown.ensures c.if-is_unknown.false c.in_ok-judge_space.ensures
