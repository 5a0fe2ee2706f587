-- `standard_promises::on_form` meets its contract: by the calls' contracts and the law `answered_alike`. Assumes nothing.
use mathlib.Core.Path.{refl, sym, ap, ◌∙◌}
use Rattle.routing.specs.Outcomes.{lent, refused}
use Rattle.answers.proofs.FormingLaws.{form-room, form-prefix, answered_alike}
use Rattle.standard_promises.proofs.on_form.Goals as goal

pub returns-then-number-ne0 : goal.returns-then-number-ne0
returns-then-number-ne0 c =
    let a = c.args in
    let s = c.standard-number in
    let r = c.refused_with.ensures in
    let e = r.0 in
    answered_alike a.call (lent a.s.now a.d.now a.old.now a.budget a.out.now) a.form.now a.old2.now a.out2.now
    (e ∙ s.ensures.0, s.ensures.1)
    (λ z. absurd (c.if-number-ne0.true (sym e ∙ z)))
    (λ z. absurd (c.if-number-ne0.true (sym e ∙ z)))
    (λ n. (r.1 ∙ ap refused (sym e), r.2 ∙ ap refused (sym e), refl, refl))

pub slice_bounds-answer-end : goal.slice_bounds-answer-end
slice_bounds-answer-end c = form-room _ _ c.standard-number.ensures c.if-number-ne0.false

pub slice_bounds-answer-end-2 : goal.slice_bounds-answer-end-2
slice_bounds-answer-end-2 c = form-prefix _ _ c.standard-number.ensures c.if-number-ne0.false

pub returns : goal.returns
returns c =
    let a = c.args in
    answered_alike a.call (lent a.s.now a.d.now a.old.now a.budget a.out.now) a.form.now a.old2.now a.out2.now
    c.standard-number.ensures
    (λ z. c.answer-first.ensures)
    (λ z. c.answer-second.ensures)
    (λ k. absurd (k c.if-number-ne0.false))
