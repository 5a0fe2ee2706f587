-- What is promised of dead wires (specs/DeadWires.antt) holds: each field by its theorem. Assumes nothing.
use Rattle.defects.proofs.DefectsLaws.{list_number-none}
use Rattle.defects.proofs.ListLaws.{list-exactly}
use Rattle.routing.proofs.DeadTheorems.{check-list, call-list, any_order, check-any-order, same-dead, check-same-dead, legal-same-dead, empty-legal, empty-fits, empty-over}
use Rattle.routing.proofs.LastWidthLaws.{least-stops}
use Rattle.netsearch.proofs.DeadLaws.{broken-none}
use Rattle.routing.proofs.RemoveTheorems.{refit-tests, refit-ticket}
use Rattle.demands.specs.DeadWires.{DeadWires}

pub dead_wires : DeadWires
dead_wires = record {
  list_exactly = list-exactly;
  check_list = check-list;
  call_list = call-list;
  same_dead = same-dead;
  least_stops = least-stops;
  check_same_dead = check-same-dead;
  legal_same_dead = legal-same-dead;
  any_order = any_order;
  check_any_order = check-any-order;
  refit_tests = refit-tests;
  refit_ticket = refit-ticket;
  empty_list = list_number-none;
  empty_broken = broken-none;
  empty_legal = empty-legal;
  empty_fits = empty-fits;
  empty_over = empty-over;
}
