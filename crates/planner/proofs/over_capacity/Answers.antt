-- `planner::over_capacity` meets its contract: `any_from_any`, and the loads count the nets. Assumes nothing.
use Rattle.std.proofs.Common.{rules, tests, refl, ap, ◌∙◌, ℕ, not}
use native.Mathlib.Omega.{arith}
use lib.Dec.{ltb}
use lib.ListN.{get_or}
use Rattle.bounded.specs.Bounded.{any_below, count_below}
use Rattle.bounded.proofs.Listed.{any_from_any}
use Rattle.marks.specs.Marks.{held_at, marked_in}
use Rattle.assignment.specs.Board.{board_with}
use Rattle.netsearch.specs.PlainSearch.{whole_tracks}
use Rattle.planner.proofs.DensityLaws.{counted-over}
use Rattle.planner.proofs.over_capacity.Goals as goal

pub returns : goal.returns
unfolding whole_tracks
returns c =
    let a = c.args in
    let over = λ (d : ℕ). ltb (count_below a.w (λ t. not (held_at a.dead.now d t))) (get_or a.load.now d 0) in
    λ s ns e f.
    any_from_any a.channels over c.any.ensures.ran refl (λ x b q h. search (rules, tests))
    ∙ ap (λ (n : ℕ). any_below n over) e
    ∙ counted-over (board_with s (marked_in a.dead.now)) a.w (omega arith) ns f
