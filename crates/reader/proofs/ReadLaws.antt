-- Laws of the outcomes of Read and Record (specs/Read.antt). Assumes nothing.
-- read_of: of a refused and of an accepted sheet. part_of: of a refused sheet, past the last record, of a record. record_of: no
-- record is empty.
use mathlib.Core.Path.{◌≡◌, sym}
use mathlib.Core.List.{List}
use Prim.Native.Nat.{ℕ, zero, suc, ◌≤◌, ◌<◌}
use native.Mathlib.Omega.{arith}
use borrow.Author.Tests.{lt-ltb, le-ltb, eq-eqb, ne_eqb}
use lib.ListN.{length}
use Rattle.net.specs.Net.{record_length}
use Rattle.net.specs.Nets.{entry_count}
use Rattle.netlist.specs.Netlist.{number_size_of, net_count, nets, record_part, record_bytes, refusal, WellFormed}
use Rattle.netlist.proofs.NetlistLaws.{well_formed-readable, record-filled}
use Rattle.reader.specs.Read.{read_of, part_of, record_of}

-- ---- read_of

pub read_of-refused : (s : List ℕ) (n : ℕ) → n ≡ refusal s → (n ≡ 0 → ⊥) → read_of s ≡ record { number = n; nets = 0; entries = 0 }
unfolding read_of
read_of-refused s zero e h = absurd (h (omega arith))
read_of-refused s (suc n) e h = rw (sym e, read_of)

pub read_of-accepted : (s : List ℕ) → WellFormed s → read_of s ≡ record { number = 0; nets = net_count s; entries = entry_count (nets s) }
unfolding read_of
read_of-accepted s w = rw (w, read_of)

-- ---- part_of

pub part_of-refused : (s : List ℕ) (k : ℕ) → (refusal s ≡ 0 → ⊥) → part_of s k ≡ record { offset = 0; len = 0 }
unfolding part_of
part_of-refused s k h = rw (ne_eqb (refusal s) 0 h, part_of)

pub part_of-past : (s : List ℕ) (k : ℕ) → WellFormed s → net_count s ≤ k → part_of s k ≡ record { offset = 0; len = 0 }
unfolding part_of
part_of-past s k w h = rw (eq-eqb (refusal s) 0 w, le-ltb k (net_count s) h, part_of)

pub part_of-record : (s : List ℕ) (k : ℕ) → WellFormed s → k < net_count s → part_of s k ≡ record_part s k
unfolding part_of
part_of-record s k w h = rw (eq-eqb (refusal s) 0 w, lt-ltb k (net_count s) h, part_of)

-- ---- record_of

-- "no record is empty": it has at least one entry
pub record_of-filled : (s : List ℕ) (k : ℕ) → WellFormed s → k < net_count s → record_length (number_size_of s) 1 ≤ length (record_of s k)
unfolding record_of record_bytes
record_of-filled s k w h = rw (part_of-record s k w h) (record-filled (well_formed-readable s w) k h)
