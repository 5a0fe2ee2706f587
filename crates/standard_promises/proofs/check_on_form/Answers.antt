-- `standard_promises::check_on_form` meets its contract: by the calls' contracts and the law `checked_alike`. Assumes nothing.
use Rattle.answers.proofs.FormingLaws.{form-room, form-prefix, checked_alike}
use Rattle.standard_promises.proofs.check_on_form.Goals as goal

pub slice_bounds-check-end : goal.slice_bounds-check-end
slice_bounds-check-end c = form-room _ _ c.standard-number.ensures c.if-number-ne0.false

pub slice_bounds-check-end-2 : goal.slice_bounds-check-end-2
slice_bounds-check-end-2 c = form-prefix _ _ c.standard-number.ensures c.if-number-ne0.false

pub returns : goal.returns
returns c =
    checked_alike _ _ _ _ _ c.standard-number.ensures (λ z. c.check-first.ensures) (λ z. c.check-second.ensures) (λ n. absurd (n c.if-number-ne0.false))
