-- What is promised of refusals (specs/Demand1.antt) holds: each field by its theorem. Assumes nothing.
-- uses, order: of every call that reads a sheet.
use Rattle.numbers.specs.Numbers.{InTableOrder}
use Rattle.routing.specs.Outcomes.{Inputs}
use Rattle.routing.specs.Results.{IsOneOf}
use Rattle.routing.proofs.BudgetTheorems.{call-refused, call-unmoved, call-writes}
use Rattle.routing.proofs.RefusalLaws.{read_of-uses, check_of-uses, read-order, check-order, call-order}
use Rattle.routing.proofs.RemoveTheorems.{remove-uses, remove-order}
use Rattle.canonical.proofs.StandardTheorems.{standard-uses, standard-order}
use Rattle.demands.specs.SheetCalls.{SheetCall, read, check, search, remove, standard, conditions_of, number_given, numbers_used}
use Rattle.demands.specs.Demand1.{Demand1}

uses : (a : SheetCall) (i : Inputs) → IsOneOf (number_given a i) (numbers_used a)
uses read i = read_of-uses i.sheet
uses check i = check_of-uses i.sheet i.dead i.old
uses (search c) i = (call-refused c i).uses
uses (remove x) i = remove-uses i x
uses standard i = standard-uses i.sheet i.out

order : (a : SheetCall) (i : Inputs) → InTableOrder (conditions_of a i)
order read i = read-order i.sheet
order check i = check-order i.sheet i.dead i.old
order (search c) i = call-order c i
order (remove x) i = remove-order i x
order standard i = standard-order i.sheet i.out

pub demand1 : Demand1
demand1 = record { uses = uses; order = order; refused = call-refused; unmoved = call-unmoved; writes = call-writes }
