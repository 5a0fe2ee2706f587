-- Promises of tickets and trials (00, demand 2). Definitions only; that they hold: proofs/Demand2.antt. Assumes nothing.
use Rattle.std.specs.Prelude.{◌≡◌, ℕ, List}
use Rattle.netlist.specs.Netlist.{WellFormed, width_of, channels_of}
use Rattle.defects.specs.Defects.{AcceptedList}
use Rattle.assignment.specs.Assignment.{LegalAt}
use Rattle.assignment.specs.Check.{check_of}
use Rattle.netsearch.specs.declared.Search.{Search}
use Rattle.routing.specs.Outcomes.{Inputs, width_in, answer_of, output_of}
use Rattle.routing.specs.Results.{LegalFor, FirstLegal, LeastWidth, homes_in, moved_in, FewestMoved, assignment_in, SpentExactly}
use Rattle.routing.specs.declared.Call.{Call}
use Rattle.routing.specs.declared.Call.TheVariants.{Route, Least, Refit}

pub record Demand2 : Type 0 where
  -- ---- asked for

  -- "A ticket that is written or passed joins every net … and gives no wire to two nets; every ticket that does so passes."; "A right ticket …
  -- now" means "without these wires", 02, M-105
  pub check_legal : (s d b : List ℕ) → check_of s d b ≡ 0 → WellFormed s × AcceptedList (channels_of s) d × LegalAt s d (width_of s) b
  pub legal_check : (s d b : List ℕ) → WellFormed s → AcceptedList (channels_of s) d → LegalAt s d (width_of s) b → check_of s d b ≡ 0
  -- "Of all right tickets the router writes the first in the order of our paper."
  pub route_first : (i : Inputs) (h : Search) → (answer_of (Route h) i).number ≡ 0
      → ((answer_of (Route h) i).width ≡ width_in i) × FirstLegal i (width_in i) (assignment_in i (output_of (Route h) i))
  -- "Nobody who holds a least width can write a right ticket at any smaller width from 1." (demand 3)
  pub least_first : (i : Inputs) (h : Search) → (answer_of (Least h) i).number ≡ 0
      → LeastWidth i (answer_of (Least h) i).width × FirstLegal i (answer_of (Least h) i).width (assignment_in i (output_of (Least h) i))
  -- "A refit writes the first among those that move the fewest placed nets."
  pub refit_fewest : (i : Inputs) → (answer_of Refit i).number ≡ 0
      → ((answer_of Refit i).width ≡ width_in i)
      × FewestMoved i (width_in i) (assignment_in i (output_of Refit i))
      × ((answer_of Refit i).moved ≡ moved_in i (assignment_in i (output_of Refit i)))
  -- 'Trials are counted as our paper's search makes them, and "spent" comes exactly if it needs more than the budget.'
  pub spent_exactly : (c : Call) (i : Inputs) → SpentExactly c i (answer_of c i)
  -- "The home track fixes all its tracks", 01
  pub homes_fix : (i : Inputs) → WellFormed i.sheet → (w : ℕ) (a b : List ℕ) → LegalFor i w a → LegalFor i w b
      → homes_in i a ≡ homes_in i b → a ≡ b
  -- ---- ours

  -- there is one first
  pub first_unique : (i : Inputs) → WellFormed i.sheet → (w : ℕ) (a b : List ℕ) → FirstLegal i w a → FirstLegal i w b → a ≡ b
  pub fewest_unique : (i : Inputs) → WellFormed i.sheet → (w : ℕ) (a b : List ℕ) → FewestMoved i w a → FewestMoved i w b → a ≡ b
