-- `defects::marks_of` meets its contract: 19 comes first, and past it 20 where the items are refused; a list of this chip is one of a chip of
-- 480 channels. Assumes nothing.
use Rattle.std.proofs.Common.{◌∙◌, refl, sym}
use Rattle.std.proofs.lemmas.Result.{err_from_is_err_and}
use native.Mathlib.Omega.{arith}
use Rattle.numbers.specs.Numbers.{first_number}
use Rattle.defects.specs.Facts.{list_number}
use Rattle.defects.proofs.ListLaws.{known}
use Rattle.defects.proofs.marks_of.Goals as goal

pub returns-then-is_bad-clause-number : goal.returns-then-is_bad-clause-number
unfolding list_number first_number
returns-then-is_bad-clause-number c = rw (sym c.is_bad.ensures ∙ c.if-is_bad.true)

pub mark_items-requires : goal.mark_items-requires
mark_items-requires c =
    let K = (known _ _).0 (sym c.is_bad.ensures ∙ c.if-is_bad.false) in
    ((known 480 _).1 (record { whole = K.whole; channels = λ k h. omega (arith, K.channels k h); tracks = K.tracks }), refl)

-- past 19 the number is that of the marking
pub returns-in_err-mark_items-clause-number : goal.returns-in_err-mark_items-clause-number
unfolding list_number first_number
returns-in_err-mark_items-clause-number c =
    let p = err_from_is_err_and c.from_residual.result c.from_residual.ensures.1 in
    let e = c.in_err-mark_items.ensures in
    rw (p.1, p.2, e.1, sym c.is_bad.ensures ∙ c.if-is_bad.false, e.0)

pub returns-clause-number : goal.returns-clause-number
unfolding list_number first_number
returns-clause-number c = rw (sym c.is_bad.ensures ∙ c.if-is_bad.false, c.in_ok-mark_items.ensures.0)
