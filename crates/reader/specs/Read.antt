-- The outcomes of Read and Record (01 "The job"). Definitions only. Assumes nothing.
use Rattle.std.specs.Prelude.{ℕ, zero, suc, List, true, false, ◌&&◌, ltb, eqb}
use Rattle.net.specs.Nets.{entry_count}
use Rattle.reader.specs.declared.Counts.{Counts}
use Rattle.netlist.specs.declared.Part.{Part}
use Rattle.netlist.specs.Netlist.{net_count, nets, record_part, part_bytes, refusal}

-- Read: "a sheet's net count and entry count"; "Numbers 1–14", and those from 17 on, "come with every other result 0"
unfoldable pub read_of : List ℕ → Counts
unfolding refusal nets entry_count
read_of s =
    elim (refusal s) [
      | zero ↦ record { number = 0; nets = net_count s; entries = entry_count (nets s) }
      | suc x ↦ record { number = suc x; nets = 0; entries = 0 }
    ]

-- Record: "from its net number to its last entry, as a part of the lent sheet. A refused sheet, or a place not below the net count,
-- gives the empty part". The paper leaves open where the empty part begins; here it begins at offset 0. "no record is empty": ReadLaws,
-- record_of-filled.
unfoldable pub part_of : List ℕ → ℕ → Part
unfolding refusal record_part
part_of s k =
    elim (eqb (refusal s) 0 && ltb k (net_count s)) [ true ↦ record_part s k | false ↦ record { offset = 0; len = 0 } ]

unfoldable pub record_of : List ℕ → ℕ → List ℕ
unfolding part_of
record_of s k = part_bytes s (part_of s k)
