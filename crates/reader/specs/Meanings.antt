-- What Read's counts and Record's part are to mean (01 "The job"). Definitions only; that they are so: proofs/MeaningLaws.antt. Assumes nothing.
use Rattle.std.specs.Prelude.{◌≡◌, ◌⊎◌, ◌↔◌, ◌≢◌, ℕ, ◌≤◌, ◌<◌, List, []}
use Rattle.net.specs.Nets.{entry_count}
use Rattle.netlist.specs.Netlist.{WellFormed, net_count, nets, record_bytes}
use Rattle.reader.specs.declared.Counts.{Counts}

-- Read: what it gives for the sheet s
pub record ReadExactly (s : List ℕ) (r : Counts) : Type 0 where
  -- "An accepted sheet is one that Read answers with 0."
  pub accepted : (r.number ≡ 0) ↔ WellFormed s
  -- "a sheet's net count and entry count, the latter over all its nets together"
  pub counts : r.number ≡ 0 → (r.nets ≡ net_count s) × (r.entries ≡ entry_count (nets s))
  -- "come with every other result 0"
  pub refused : r.number ≢ 0 → (r.nets ≡ 0) × (r.entries ≡ 0)

-- Record: the bytes of the part that it gives for the list place k
pub record RecordExactly (s : List ℕ) (k : ℕ) (bytes : List ℕ) : Type 0 where
  -- "the record's own bytes"
  pub own : WellFormed s → k < net_count s → bytes ≡ record_bytes s k
  -- "A refused sheet, or a place not below the net count, gives the empty part; no record is empty."
  pub empty : (bytes ≡ []) ↔ ((WellFormed s → ⊥) ⊎ (net_count s ≤ k))
