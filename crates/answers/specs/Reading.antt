-- What the functions of `promises` state of the own answers of Read, Record and Check, a call each (00, demands 1 and 2; 01 "The job", "Words for
-- no"); and when the numbers of the other calls come. Definitions only; laws: proofs/ReadingLaws.antt. Assumes nothing.
use Rattle.std.specs.Prelude.{◌≡◌, ◌↔◌, ℕ, List, []}
use Rattle.netlist.specs.Netlist.{WellFormed, width_of, channels_of}
use Rattle.reader.specs.declared.Counts.{Counts}
use Rattle.reader.specs.Read.{read_of, record_of}
use Rattle.reader.specs.Meanings.{ReadExactly, RecordExactly}
use Rattle.defects.specs.Defects.{AcceptedList}
use Rattle.assignment.specs.Assignment.{LegalAt}
use Rattle.assignment.specs.Check.{check_of}
use Rattle.routing.specs.Outcomes.{Inputs, lent}
use Rattle.routing.specs.Results.{IsOneOf, read_numbers, check_numbers}
use Rattle.routing.specs.declared.Call.{Call}
use Rattle.demands.specs.SheetCalls.{read, check, search, remove, standard}
use Rattle.demands.specs.Exactly.{GivesExactly}

-- Read: its number and when it comes, and its counts
pub record Reads (s : List ℕ) (r : Counts) : Type 0 where
  pub gave : r ≡ read_of s
  pub uses : IsOneOf r.number read_numbers
  pub numbers : GivesExactly read (lent s [] [] 0 []) r.number
  pub exactly : ReadExactly s r

-- Record at the list place k: its bytes
pub record Records (s : List ℕ) (k : ℕ) (bytes : List ℕ) : Type 0 where
  pub gave : bytes ≡ record_of s k
  pub exactly : RecordExactly s k bytes

-- Check of the ticket b with the list d: its number and when it comes
pub record Checks (s d b : List ℕ) (n : ℕ) : Type 0 where
  pub gave : n ≡ check_of s d b
  pub uses : IsOneOf n check_numbers
  pub numbers : GivesExactly check (lent s d b 0 []) n
  -- "A ticket that is … passed joins every net … and gives no wire to two nets; every ticket that does so passes."
  pub legal : (n ≡ 0) ↔ (WellFormed s × AcceptedList (channels_of s) d × LegalAt s d (width_of s) b)

-- an answer of Route, Least or Refit, Remove of the net number x, Standard: when the number n comes
abbrev pub AnswersExactly : Call → Inputs → ℕ → Type 0
AnswersExactly c i n = GivesExactly (search c) i n

abbrev pub TakesExactly : Inputs → ℕ → ℕ → Type 0
TakesExactly i x n = GivesExactly (remove x) i n

abbrev pub FormsExactly : List ℕ → List ℕ → ℕ → Type 0
FormsExactly s out n = GivesExactly standard (lent s [] [] 0 out) n
