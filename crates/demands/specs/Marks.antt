-- Promises of the two marks and of longer net numbers (02, M-106). Definitions only; that they hold: proofs/Marks.antt. Assumes nothing.
use Rattle.std.specs.Prelude.{◌≡◌, ℕ, ◌≤◌, ◌<◌, List}
use Rattle.net.specs.Net.{short, long}
use Rattle.netlist.specs.Netlist.{WellFormed, mark_of, net_count}
use Rattle.netlist.specs.Facts.{AsIn01, AsIn02}
use Rattle.reader.specs.Read.{read_of, part_of, record_of}
use Rattle.assignment.specs.Check.{check_of}
use Rattle.routing.specs.Equivalent.{Equivalent, SameListing}
use Rattle.routing.specs.Outcomes.{Inputs, with_sheet, answer_of, output_of}
use Rattle.routing.specs.Remove.{remove_number, remove_output}
use Rattle.routing.specs.declared.Call.{Call}
use Rattle.canonical.specs.Canonical.{canonical_form}
use Rattle.canonical.specs.Standard.{Bytes}
use Rattle.canonical.specs.Twins.{Twin, widened, widened_record, LaterPart}

-- the sheet of i and the sheet t get the same answers, and the same bytes in the whole output, with the same list, ticket, budget and output
pub record SameAnswers (i : Inputs) (t : List ℕ) : Type 0 where
  pub read : read_of i.sheet ≡ read_of t
  pub check : check_of i.sheet i.dead i.old ≡ check_of t i.dead i.old
  pub call : (c : Call) → (answer_of c i ≡ answer_of c (with_sheet i t)) × (output_of c i ≡ output_of c (with_sheet i t))
  pub remove : (x : ℕ) → (remove_number i x ≡ remove_number (with_sheet i t) x) × (remove_output i x ≡ remove_output (with_sheet i t) x)

pub record Marks : Type 0 where
  -- ---- asked for

  -- "Sheets marked 57 48 are read as before": net number, entry count, entries and length of a record are where 01 puts them; "A sheet marked 57 49
  -- hexadecimal has net numbers of 32 bits, low byte first; each record is 2 bytes longer."
  pub short_record : (s : List ℕ) → WellFormed s → mark_of s ≡ short → (k : ℕ) → k < net_count s → AsIn01 s k
  pub long_record : (s : List ℕ) → WellFormed s → mark_of s ≡ long → (k : ℕ) → k < net_count s → AsIn02 s k
  -- ", their numbers widened.": the mark is in no answer; sheets that list the same get the same ones
  pub same_listing : (i : Inputs) (t : List ℕ) → SameListing i.sheet t → SameAnswers i t
  -- ---- ours

  -- beside every accepted sheet marked 57 48 there is one marked 57 49 with the same records and entries in the same order, its twin, and no other;
  -- it is a relisting, and its records have the same bytes but for the numbers
  pub twin_there : (s : List ℕ) → WellFormed s → mark_of s ≡ short → Twin s (widened s)
  pub twin_of_bytes : (s : List ℕ) → WellFormed s → mark_of s ≡ short → Bytes s → Bytes (widened s)
  pub twin_only : (s t : List ℕ) → Twin s t → Bytes t → t ≡ widened s
  pub twin_relisted : (s t : List ℕ) → Twin s t → Equivalent s t
  pub twin_bytes : (s t : List ℕ) → Twin s t → Bytes s → Bytes t → (k : ℕ) → k < net_count s → record_of t k ≡ widened_record (record_of s k)
  -- Record's part at place k is 2 bytes longer and starts 2·k bytes later; behind the last record both parts are empty
  pub twin_record : (s t : List ℕ) → Twin s t → (k : ℕ) → k < net_count s → LaterPart k (part_of s k) (part_of t k)
  pub twin_past : (s t : List ℕ) → Twin s t → (k : ℕ) → net_count s ≤ k → part_of s k ≡ part_of t k
  -- the standard form of one is the twin of the other's: they differ in the widening, the offsets, the length and the mark alone
  pub twin_form : (s t : List ℕ) → Twin s t → canonical_form t ≡ widened (canonical_form s)
