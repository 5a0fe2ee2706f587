-- What Route, Least and Refit write (00, demand 2; 01 "The job", "The ticket"), over all byte lists. Assumes nothing.
-- route-first: the first legal assignment at W. least_first: the smallest width, and the first legal assignment there.
-- refit-fewest: the first of those that move the fewest routed nets, and how many it moves.
use mathlib.Core.Path.{◌≡◌, sym, subst, ap, ◌∙◌}
use Prim.Native.Nat.{ℕ}
use mathlib.Core.List.{List}
use Rattle.netsearch.specs.PlainSearch.{plain_search}
use Rattle.netsearch.specs.Refit.{refit_search}
use Rattle.netsearch.specs.declared.Search.{Search}
use Rattle.netsearch.proofs.SearchByLaws.{at_width-finds}
use Rattle.routing.specs.declared.Answer.{Answer}
use Rattle.routing.specs.Outcomes.{Inputs, width_in, run, answer_of, output_of, board_in, nets_in, old_byte}
use Rattle.routing.specs.declared.Call.TheVariants.{Route, Least, Refit}
use Rattle.routing.specs.Results.{FirstLegal, LeastWidth, FewestMoved, moved_in, assignment_in}
use Rattle.routing.proofs.CallLaws.{call-found}
use Rattle.routing.proofs.FixedLaws.{assignment_of}
use Rattle.routing.proofs.FoundLaws.{search-first, widths-first, rounds-moved, rounds-fewest}

module _ (i : Inputs) where
  -- "Route: the first right ticket at the sheet's width W"; "width is then W"
  pub route-first : (h : Search) → (answer_of (Route h) i).number ≡ 0
      → ((answer_of (Route h) i).width ≡ width_in i) × FirstLegal i (width_in i) (assignment_in i (output_of (Route h) i))
  unfolding run
  route-first h e =
      let F = call-found (Route h) i e in
      let f = at_width-finds (width_in i) (plain_search h (board_in i) (width_in i) (nets_in i)) (F.width, F.tracks) F.finds in
      let w : F.width ≡ width_in i = f.0 in (
        ap (λ (x : Answer). x.width) F.says ∙ w,
        subst (FirstLegal i (width_in i)) (sym (F.writes ∙ ap (λ (v : ℕ). assignment_of i v F.tracks) w))
            (search-first i F.accepted (width_in i) h F.tracks f.1),
      )

  -- "Least: the smallest width from 1 to 32 that has a right ticket, and the first ticket there"; "Least: the width found"
  pub least_first : (h : Search) → (answer_of (Least h) i).number ≡ 0
      → LeastWidth i (answer_of (Least h) i).width × FirstLegal i (answer_of (Least h) i).width (assignment_in i (output_of (Least h) i))
  unfolding run
  least_first h e =
      let F = call-found (Least h) i e in
      let f = widths-first i F.accepted h F.width F.tracks F.finds in
      subst (λ (v : ℕ). LeastWidth i v × FirstLegal i v (assignment_in i (output_of (Least h) i))) (sym (ap (λ (x : Answer). x.width) F.says))
      (f.0, subst (FirstLegal i F.width) (sym F.writes) f.1)

  -- "the first ticket among the right ones in which the fewest placed nets have another home track; that count is reported as moved"
  pub refit-fewest : (answer_of Refit i).number ≡ 0
      → ((answer_of Refit i).width ≡ width_in i)
      × FewestMoved i (width_in i) (assignment_in i (output_of Refit i))
      × ((answer_of Refit i).moved ≡ moved_in i (assignment_in i (output_of Refit i)))
  unfolding run
  refit-fewest e =
      let F = call-found Refit i e in
      let f = at_width-finds (width_in i) (refit_search (old_byte i) (board_in i) (width_in i) (nets_in i)) (F.width, F.tracks) F.finds in
      let w : F.width ≡ width_in i = f.0 in
      let b = F.writes ∙ ap (λ (v : ℕ). assignment_of i v F.tracks) w in (
        ap (λ (x : Answer). x.width) F.says ∙ w,
        subst (FewestMoved i (width_in i)) (sym b) (rounds-fewest i F.accepted (width_in i) F.tracks f.1),
        ap (λ (x : Answer). x.moved) F.says ∙ rounds-moved i F.accepted (width_in i) F.tracks f.1 ∙ ap (moved_in i) (sym b),
      )
