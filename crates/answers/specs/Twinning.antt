-- What the functions of `twin_promises` state of the calls' own answers and bytes on a sheet s marked 57 48 and on its twin t marked 57 49 (02, M-106).
-- Definitions only; laws: proofs/TwinningLaws.antt. Assumes nothing.
use Rattle.std.specs.Prelude.{◌≡◌, ℕ, ◌≤◌, ◌<◌, List}
use Rattle.netlist.specs.declared.Part.{Part}
use Rattle.netlist.specs.Netlist.{net_count}
use Rattle.reader.specs.declared.Counts.{Counts}
use Rattle.reader.specs.Read.{read_of, part_of}
use Rattle.assignment.specs.Check.{check_of}
use Rattle.routing.specs.declared.Answer.{Answer}
use Rattle.routing.specs.declared.Call.{Call}
use Rattle.routing.specs.Outcomes.{Inputs, with_sheet}
use Rattle.routing.specs.Remove.{remove_number, remove_output}
use Rattle.canonical.specs.Twins.{Twin, widened, LaterPart}
use Rattle.answers.specs.Promises.{Gave}
use Rattle.answers.specs.Forming.{Formed, form_in}

-- Read: equal numbers and counts
pub record ReadOnTwin (s t : List ℕ) (a b : Counts) : Type 0 where
  pub first : a ≡ read_of s
  pub second : b ≡ read_of t
  pub same : Twin s t → b ≡ a

-- Record at place k: the part of the twin is 2 bytes longer and starts 2·k bytes later; behind the last record both are empty
pub record RecordedOnTwin (s t : List ℕ) (k : ℕ) (p q : Part) : Type 0 where
  pub first : p ≡ part_of s k
  pub second : q ≡ part_of t k
  pub later : Twin s t → k < net_count s → LaterPart k p q
  pub past : Twin s t → net_count s ≤ k → q ≡ p

-- Check of the ticket b under the list d: equal numbers
pub record CheckedOnTwin (s t d b : List ℕ) (x y : ℕ) : Type 0 where
  pub first : x ≡ check_of s d b
  pub second : y ≡ check_of t d b
  pub same : Twin s t → y ≡ x

-- Route, Least or Refit: equal answers, and the same bytes in the whole output
pub record AnsweredOnTwin (c : Call) (i : Inputs) (t : List ℕ) (a b : Answer) (after after2 : List ℕ) : Type 0 where
  pub first : Gave c i a after
  pub second : Gave c (with_sheet i t) b after2
  pub same : Twin i.sheet t → (b ≡ a) × (after2 ≡ after)

-- Remove of the net number x: equal numbers, and the same bytes in the whole output
pub record RemovedOnTwin (i : Inputs) (t : List ℕ) (x m n : ℕ) (after after2 : List ℕ) : Type 0 where
  pub first : (m ≡ remove_number i x) × (after ≡ remove_output i x)
  pub second : (n ≡ remove_number (with_sheet i t) x) × (after2 ≡ remove_output (with_sheet i t) x)
  pub same : Twin i.sheet t → (n ≡ m) × (after2 ≡ after)

-- Standard: where both write, the form of the twin is the twin of the form
pub record FormedOnTwin (s t out out2 : List ℕ) (m n : ℕ) (after after2 : List ℕ) : Type 0 where
  pub first : Formed s out m after
  pub second : Formed t out2 n after2
  pub form : Twin s t → m ≡ 0 → n ≡ 0 → form_in t after2 ≡ widened (form_in s after)
