-- What "unroutable" says (00, demands 2 and 3; 01 "Words for no"), over all byte lists: no list is a legal assignment. Assumes nothing.
-- route-unroutable, refit-unroutable: at the sheet's width. least-unroutable: at no width from 1 to 32.
use mathlib.Core.Path.{◌≡◌}
use Prim.Native.Nat.{ℕ, ◌≤◌}
use Rattle.numbers.specs.Numbers.{unroutable_no}
use Rattle.netsearch.specs.PlainSearch.{plain_search}
use Rattle.netsearch.specs.Refit.{refit_search}
use Rattle.netsearch.specs.declared.Search.{Search}
use Rattle.netsearch.proofs.SearchByLaws.{at_width-fails}
use Rattle.routing.specs.Outcomes.{Inputs, width_in, run, answer_of, board_in, nets_in, old_byte}
use Rattle.routing.specs.declared.Call.TheVariants.{Route, Least, Refit}
use Rattle.routing.specs.Results.{Unroutable}
use Rattle.routing.proofs.CallLaws.{call_none}
use Rattle.routing.proofs.FoundLaws.{search-none, widths-none, rounds-none}

module _ (i : Inputs) where
  pub route-unroutable : (h : Search) → (answer_of (Route h) i).number ≡ unroutable_no → Unroutable i (width_in i)
  unfolding run
  route-unroutable h e =
      let n = call_none (Route h) i e in search-none i n.0 (width_in i) h (at_width-fails (width_in i) (plain_search h (board_in i) (width_in i) (nets_in i)) n.1)

  pub least-unroutable : (h : Search) → (answer_of (Least h) i).number ≡ unroutable_no → (w : ℕ) → 1 ≤ w → w ≤ 32 → Unroutable i w
  unfolding run
  least-unroutable h e w l m = let n = call_none (Least h) i e in widths-none i n.0 h n.1 w l m

  pub refit-unroutable : (answer_of Refit i).number ≡ unroutable_no → Unroutable i (width_in i)
  unfolding run
  refit-unroutable e =
      let n = call_none Refit i e in rounds-none i n.0 (width_in i) (at_width-fails (width_in i) (refit_search (old_byte i) (board_in i) (width_in i) (nets_in i)) n.1)
