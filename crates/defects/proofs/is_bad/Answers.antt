-- `defects::is_bad` meets its contract: both tests are those of 19. Assumes nothing.
use Rattle.std.proofs.Common.{rules, tests, ◌≡◌, ◌∙◌, ℕ, Bool, true, not, ◌||◌, refl, sym, ap, length, ◌%◌}
use borrow.Author.Tests.{eq-eqb, ne_eqb}
use lib.Dec.{eqb}
use Rattle.bounded.specs.Bounded.{any_below}
use Rattle.bounded.proofs.BoundedLaws.{left-true}
use Rattle.bounded.proofs.Listed.{any_from_any}
use Rattle.defects.specs.Defects.{item_count, item_at, bad_item, bad_list, item_length}
use Rattle.defects.proofs.is_bad.Goals as goal

pub returns-then-d-ne0 : goal.returns-then-d-ne0
unfolding bad_list
returns-then-d-ne0 c =
    let a = c.args in
    let broken : not (eqb (length a.d.now % item_length) 0) ≡ true = ap not (ne_eqb _ 0 c.if-d-ne0.true) in
    broken ∙ sym (left-true _ (any_below (item_count a.d.now) (λ k. bad_item a.count (item_at a.d.now k))) broken)

pub returns-else-d-ne0 : goal.returns-else-d-ne0
unfolding bad_list
returns-else-d-ne0 c =
    let a = c.args in
    let item = λ (k : ℕ). bad_item a.count (item_at a.d.now k) in
    any_from_any (item_count a.d.now) item c.any.ensures.ran refl (λ k b q h. search (rules, tests))
    ∙ sym (ap (λ (x : Bool). x || any_below (item_count a.d.now) item) (ap not (eq-eqb _ 0 c.if-d-ne0.false)))
