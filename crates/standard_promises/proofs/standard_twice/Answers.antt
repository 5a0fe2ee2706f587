-- `standard_promises::standard_twice` meets its contract: the form that the first call wrote is what the second one is lent; by the calls' contracts
-- and the law `formed_twice`. Assumes nothing.
use mathlib.Core.Path.{refl}
use Rattle.answers.proofs.FormingLaws.{form-room, form-prefix, formed_twice}
use Rattle.standard_promises.proofs.standard_twice.Goals as goal

pub returns-then-first-ne0 : goal.returns-then-first-ne0
returns-then-first-ne0 c = formed_twice _ _ _ c.standard-first.ensures (λ z. absurd (c.if-first-ne0.true z)) (λ n. (refl, refl))

pub slice_bounds-standard-end : goal.slice_bounds-standard-end
slice_bounds-standard-end c = form-room _ _ c.standard-first.ensures c.if-first-ne0.false

pub slice_bounds-standard-end-2 : goal.slice_bounds-standard-end-2
slice_bounds-standard-end-2 c = form-prefix _ _ c.standard-first.ensures c.if-first-ne0.false

pub returns : goal.returns
returns c =
    formed_twice _ _ _ c.standard-first.ensures (λ z. c.standard-second.ensures) (λ n. absurd (n c.if-first-ne0.false))
