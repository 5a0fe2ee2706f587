-- What is promised of relistings, of "unroutable" and of budgets (specs/Demand3.antt) holds: each field by its theorem. Assumes nothing.
-- none_right: "unroutable", of every call.
use mathlib.Core.Path.{◌≡◌, sym, subst}
use Prim.Native.Nat.{ℕ}
use Rattle.numbers.specs.Numbers.{unroutable_no}
use Rattle.routing.specs.Outcomes.{Inputs, answer_of}
use Rattle.routing.specs.Results.{Unroutable}
use Rattle.routing.specs.declared.Call.{Call}
use Rattle.routing.specs.declared.Call.TheVariants.{Route, Least, Refit}
use Rattle.routing.proofs.BudgetTheorems.{call-budget, search-budget}
use Rattle.routing.proofs.EquivalentLaws.{search-resp, rounds-resp, check-resp}
use Rattle.routing.proofs.RelistTheorems.{call-resp, legal-resp}
use Rattle.routing.proofs.UnroutableTheorems.{route-unroutable, least-unroutable, refit-unroutable}
use Rattle.routing.proofs.WidthTheorems.{least-any-width}
use Rattle.demands.specs.Demand3.{WidthFor, Demand3}

none_right : (c : Call) (i : Inputs) → (answer_of c i).number ≡ unroutable_no → (w : ℕ) → WidthFor c i w → Unroutable i w
none_right (Route h) i e w b = subst (Unroutable i) (sym b) (route-unroutable i h e)
none_right (Least h) i e w b = least-unroutable i h e w b.0 b.1
none_right Refit i e w b = subst (Unroutable i) (sym b) (refit-unroutable i e)

pub demand3 : Demand3
demand3 = record {
  relisted = call-resp;
  legal_relisted = legal-resp;
  search_relisted = search-resp;
  rounds_relisted = rounds-resp;
  unroutable = none_right;
  least_any_width = least-any-width;
  budget = call-budget;
  search_budget = search-budget;
  check_relisted = check-resp;
}
