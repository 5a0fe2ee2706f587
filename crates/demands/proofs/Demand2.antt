-- What is promised of tickets and trials (specs/Demand2.antt) holds: each field by its theorem. Assumes nothing.
use Rattle.assignment.proofs.CheckLaws.{check-legal, legal-check}
use Rattle.routing.proofs.BudgetTheorems.{call-spent}
use Rattle.routing.proofs.FirstTheorems.{route-first, least_first, refit-fewest}
use Rattle.routing.proofs.FixedLaws.{homes-fix, first-unique, fewest-unique}
use Rattle.demands.specs.Demand2.{Demand2}

pub demand2 : Demand2
demand2 = record {
  check_legal = check-legal;
  legal_check = legal-check;
  route_first = route-first;
  least_first = least_first;
  refit_fewest = refit-fewest;
  spent_exactly = call-spent;
  homes_fix = homes-fix;
  first_unique = first-unique;
  fewest_unique = fewest-unique;
}
