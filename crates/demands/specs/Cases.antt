-- Promises of the marked cases (01 "Sheets to try", "A word with whoever tests"). Definitions only; that they hold: proofs/Cases.antt. Assumes nothing.
use Rattle.std.specs.Prelude.{◌≡◌, map}
use Rattle.routing.specs.MarkedCases.{Case, Result, result_of, marked_cases}

pub record Cases : Type 0 where
  -- ---- asked for

  -- "Cases m1 to m12 are proved from the definitions as one table"
  pub marked : map (λ (x : Case × Result). result_of x.0) marked_cases ≡ map (λ (x : Case × Result). x.1) marked_cases
