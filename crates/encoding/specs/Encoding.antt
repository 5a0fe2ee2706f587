-- The bytes of a netlist file, 01: sheet, from its mark, its fabric, its width W and its nets (01 "The sheet"): what the definitions of netlist read
-- back. Definitions only; laws: proofs/RecordLaws.antt to proofs/OwnLaws.antt. Assumes nothing.
use Rattle.std.specs.Prelude.{◌≡◌, ℕ, ◌+◌, ◌*◌, ◌/◌, ◌%◌, List, [], ◌∷◌, ◌++◌, length, take, replicate}
use Rattle.bounded.specs.Bounded.{joined}
use Rattle.switchbox.specs.declared.Fabric.{Fabric}
use Rattle.switchbox.specs.SwitchBox.{rows_kind, rows_length, rows_size}
use Rattle.net.specs.Net.{Mark, short, long, Net, size, channel, parent}
use Rattle.net.specs.Nets.{net_in}
use Rattle.netlist.specs.Netlist.{trailer_length, first_mark, mark_byte, mark_of, fabric_of, width_of, nets}

-- "Numbers are unsigned, low byte first; u8 and u16 have 8 and 16 bits": the bytes of the u16 x
unfoldable pub u16_bytes : ℕ → List ℕ
u16_bytes x = x % 256 ∷ x / 256 ∷ []

-- the bytes of the net number x: 01 "net number u16"; 02, M-106: "A sheet marked 57 49 hexadecimal has net numbers of 32 bits, low byte first"
unfoldable pub number_bytes : Mark → ℕ → List ℕ
unfolding u16_bytes
number_bytes short x = u16_bytes x
number_bytes long x = u16_bytes (x % 65536) ++ u16_bytes (x / 65536)

-- the net number, then "entry count n u16 (1 to 32), then …"
unfoldable pub head_bytes : Mark → Net → List ℕ
unfolding u16_bytes number_bytes
head_bytes mark n = number_bytes mark n.number ++ u16_bytes (size n)

-- "… n entries of channel u16 and parent u16": the bytes of entry i
unfoldable pub entry_bytes : Net → ℕ → List ℕ
unfolding u16_bytes
entry_bytes n i = u16_bytes (channel n i) ++ u16_bytes (parent n i)

-- the record of a net
unfoldable pub record_from : Mark → Net → List ℕ
unfolding head_bytes entry_bytes joined
record_from mark n = head_bytes mark n ++ joined (size n) (entry_bytes n)

-- "Records stand from offset 0, back to back": those of the first k nets
unfoldable pub records_to : Mark → List Net → ℕ → List ℕ
unfolding record_from joined
records_to mark ns k = joined k (λ j. record_from mark (net_in ns j))

-- where record k starts, and, behind the last one, the directory
abbrev pub start_at : Mark → List Net → ℕ → ℕ
start_at mark ns k = length (records_to mark ns k)

-- "After the records stands the directory: one u16 offset per record, in order.": the first k offsets
unfoldable pub offsets_to : Mark → List Net → ℕ → List ℕ
unfolding u16_bytes records_to joined
offsets_to mark ns k = joined k (λ j. u16_bytes (start_at mark ns j))

-- 02, M-102: "12 bytes between directory and trailer", of kind 3 alone
unfoldable pub row_bytes : Fabric → List ℕ
unfolding rows_size
row_bytes f = take (rows_size f.kind) f.rows

-- how long the whole sheet is
abbrev pub sheet_length : Mark → Fabric → List Net → ℕ
sheet_length mark f ns = start_at mark ns (length ns) + 2 * length ns + rows_size f.kind + trailer_length

-- "Last is a 12-byte trailer that points back: A u8, B u8, kind u8, W u8 (1 to 32), net count u16 (0 to 64), directory offset u16, length of
-- the whole sheet u16, and the bytes 57 48 hexadecimal.", or 57 49 (02, M-106)
unfoldable pub trailer_bytes : Mark → Fabric → ℕ → List Net → List ℕ
unfolding u16_bytes records_to rows_size mark_byte
trailer_bytes mark f w ns =
    f.grid.cols ∷ f.grid.rows ∷ f.kind ∷ w ∷
    (u16_bytes (length ns) ++ (u16_bytes (start_at mark ns (length ns)) ++ (u16_bytes (sheet_length mark f ns) ++ (first_mark ∷ mark_byte mark ∷ []))))

-- the whole sheet
unfoldable pub encode : Mark → Fabric → ℕ → List Net → List ℕ
unfolding records_to offsets_to row_bytes trailer_bytes
encode mark f w ns = records_to mark ns (length ns) ++ (offsets_to mark ns (length ns) ++ (row_bytes f ++ trailer_bytes mark f w ns))

-- the rows of a fabric as a sheet has them: 12 bytes, and zeros for a kind that has none
pub record Rowed (f : Fabric) : Type 0 where
  pub sized : length f.rows ≡ rows_length
  pub none : (f.kind ≡ rows_kind → ⊥) → f.rows ≡ replicate rows_length 0

-- the definitions of "The sheet" read the list of bytes b as the nets ns, on the fabric f at the width w, with the mark `mark`
pub record ReadAs (b : List ℕ) (mark : Mark) (f : Fabric) (w : ℕ) (ns : List Net) : Type 0 where
  pub marked : mark_of b ≡ mark
  pub fabric : fabric_of b ≡ f
  pub width : width_of b ≡ w
  pub listed : nets b ≡ ns
