-- Promises of refusals (00, demand 1; 01 "Words for no"): which numbers, in which order, with which other results, and what is written. That every
-- call takes every input and ends: no public call has a `requires`. Definitions only; that they hold: proofs/Demand1.antt. Assumes nothing.
use Rattle.std.specs.Prelude.{◌≡◌, ◌≢◌}
use Rattle.numbers.specs.Numbers.{InTableOrder}
use Rattle.routing.specs.Outcomes.{Inputs, answer_of, output_of}
use Rattle.routing.specs.Results.{Written, IsOneOf, Refused}
use Rattle.routing.specs.declared.Call.{Call}
use Rattle.routing.specs.declared.Call.TheVariants.{Refit}
use Rattle.demands.specs.SheetCalls.{SheetCall, conditions_of, number_given, numbers_used}

pub record Demand1 : Type 0 where
  -- ---- asked for

  -- "A refusal carries one number of our table": "Read and Record use 1–9, Check 1–13, Route and Least 1–9 and 14–16, Refit all" of 1–16, 01; each 18
  -- (02, M-102), those that are lent a list 19 and 20, Check and Refit 21 (02, M-105); Remove 1–13, 17 and 14 (02, M-100), Standard 14 (02, M-101)
  pub uses : (a : SheetCall) (i : Inputs) → IsOneOf (number_given a i) (numbers_used a)
  -- "The lowest number that applies is given", 01: the first in the order of the table, in which every call's numbers stand
  pub order : (a : SheetCall) (i : Inputs) → InTableOrder (conditions_of a i)
  -- "Numbers 1–14", and those from 17 on (02), "come with every other result 0", with 15 and 16 "width and moved are 0", "moved is 0 outside Refit", 01
  pub refused : (c : Call) (i : Inputs) → Refused c i (answer_of c i)
  pub unmoved : (c : Call) (i : Inputs) → c ≢ Refit → (answer_of c i).moved ≡ 0
  -- "A refusal … alters no lent byte."
  pub writes : (c : Call) (i : Inputs) → Written i (answer_of c i).number (output_of c i)
