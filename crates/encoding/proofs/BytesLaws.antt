-- The bytes made of nets are bytes (specs/Encoding.antt). Assumes nothing.
-- append-bytes, joined_bytes, take-bytes, zero-bytes: of lists. u16-bytes, number-bytes, record-in-bytes: of numbers, and of a record. encode-bytes: of the whole file.
use mathlib.Core.List.{List, [], ◌∷◌, ◌++◌}
use Prim.Native.Nat.{ℕ, zero, suc, ◌%◌, ◌/◌, ◌<◌}
use native.Mathlib.Omega.{arith}
use lib.ListN.{length, get_or, take, replicate}
use Rattle.bounded.specs.Bounded.{joined}
use Rattle.switchbox.specs.declared.Fabric.{Fabric}
use Rattle.switchbox.specs.SwitchBox.{rows_size}
use Rattle.net.specs.Net.{Net, Mark, short, long, size, channel, parent}
use Rattle.net.specs.Nets.{net_in}
use Rattle.netlist.specs.Netlist.{first_mark, mark_byte}
use Rattle.encoding.specs.Encoding.{u16_bytes, number_bytes, head_bytes, entry_bytes, record_from, records_to, start_at, offsets_to, row_bytes, sheet_length, trailer_bytes, encode}
use Rattle.encoding.proofs.EncodingLaws.{start_at-le}

-- ---- lists

abbrev Bytes : List ℕ → Type 0
Bytes b = (k : ℕ) → get_or b k 0 < 256

append-bytes : (a b : List ℕ) → Bytes a → Bytes b → Bytes (a ++ b)
append-bytes [] b h g k = g k
append-bytes (x ∷ a) b h g zero = h 0
append-bytes (x ∷ a) b h g (suc k) = append-bytes a b (λ j. h (suc j)) g k

joined_bytes : (k : ℕ) (f : ℕ → List ℕ) → ((i : ℕ) → i < k → Bytes (f i)) → Bytes (joined k f)
unfolding joined
joined_bytes zero f h j = omega arith
joined_bytes (suc k) f h j = append-bytes (joined k f) (f k) (joined_bytes k f (λ i l. h i (omega arith))) (h k (omega arith)) j

pub take-bytes : (n : ℕ) (b : List ℕ) → Bytes b → Bytes (take n b)
take-bytes zero b h k = omega arith
take-bytes (suc n) [] h k = omega arith
take-bytes (suc n) (x ∷ b) h zero = h 0
take-bytes (suc n) (x ∷ b) h (suc k) = take-bytes n b (λ j. h (suc j)) k

pub zero-bytes : (n : ℕ) → Bytes (replicate n 0)
zero-bytes zero k = omega arith
zero-bytes (suc n) zero = omega arith
zero-bytes (suc n) (suc k) = zero-bytes n k

-- ---- numbers and records

u16-bytes : (x : ℕ) → x < 65536 → Bytes (u16_bytes x)
unfolding u16_bytes
u16-bytes x h zero = omega arith
u16-bytes x h (suc zero) = omega arith
u16-bytes x h (suc (suc k)) = omega arith

-- a net number that a u16 holds, with each mark
number-bytes : (mark : Mark) (x : ℕ) → x < 65536 → Bytes (number_bytes mark x)
unfolding number_bytes
number-bytes short x h = u16-bytes x h
number-bytes long x h = append-bytes (u16_bytes (x % 65536)) (u16_bytes (x / 65536)) (u16-bytes (x % 65536) (omega arith)) (u16-bytes (x / 65536) (omega arith))

-- a net whose numbers are u16
pub record Small (n : Net) : Type 0 where
  pub number : n.number < 65536
  pub few : size n < 65536
  pub channels : (i : ℕ) → i < size n → channel n i < 65536
  pub parents : (i : ℕ) → i < size n → parent n i < 65536

record-in-bytes : (mark : Mark) (n : Net) → Small n → Bytes (record_from mark n)
unfolding record_from head_bytes entry_bytes
record-in-bytes mark n S =
    append-bytes (head_bytes mark n) (joined (size n) (entry_bytes n))
    (append-bytes (number_bytes mark n.number) (u16_bytes (size n)) (number-bytes mark n.number S.number) (u16-bytes (size n) S.few))
    (joined_bytes (size n) (entry_bytes n)
    (λ i h. append-bytes (u16_bytes (channel n i)) (u16_bytes (parent n i)) (u16-bytes (channel n i) (S.channels i h)) (u16-bytes (parent n i) (S.parents i h))))

-- ---- encode

mark-bytes : (mark : Mark) → Bytes (first_mark ∷ mark_byte mark ∷ [])
unfolding mark_byte
mark-bytes mark zero = omega arith
mark-bytes short (suc zero) = omega arith
mark-bytes long (suc zero) = omega arith
mark-bytes mark (suc (suc k)) = omega arith

four_bytes : (a b c d : ℕ) → a < 256 → b < 256 → c < 256 → d < 256 → Bytes (a ∷ b ∷ c ∷ d ∷ [])
four_bytes a b c d p q r s zero = p
four_bytes a b c d p q r s (suc zero) = q
four_bytes a b c d p q r s (suc (suc zero)) = r
four_bytes a b c d p q r s (suc (suc (suc zero))) = s
four_bytes a b c d p q r s (suc (suc (suc (suc k)))) = omega arith

module _ (mark : Mark) (f : Fabric) (w : ℕ) (ns : List Net) where
  -- the end of the trailer: from the net count, from the directory offset, from the length
  abbrev from_length : List ℕ
  from_length = u16_bytes (sheet_length mark f ns) ++ (first_mark ∷ mark_byte mark ∷ [])

  abbrev from_directory : List ℕ
  from_directory = u16_bytes (start_at mark ns (length ns)) ++ from_length

  abbrev from_count : List ℕ
  from_count = u16_bytes (length ns) ++ from_directory

  pub encode-bytes : f.grid.cols < 256 → f.grid.rows < 256 → f.kind < 256 → w < 256 → Bytes f.rows → sheet_length mark f ns < 65536
      → ((k : ℕ) → k < length ns → Small (net_in ns k)) → Bytes (encode mark f w ns)
  unfolding encode records_to offsets_to row_bytes trailer_bytes
  encode-bytes a b k x r l S =
      append-bytes (records_to mark ns (length ns)) (offsets_to mark ns (length ns) ++ (row_bytes f ++ trailer_bytes mark f w ns))
      (joined_bytes (length ns) (λ j. record_from mark (net_in ns j)) (λ j h. record-in-bytes mark (net_in ns j) (S j h)))
      (append-bytes (offsets_to mark ns (length ns)) (row_bytes f ++ trailer_bytes mark f w ns)
      (joined_bytes (length ns) (λ j. u16_bytes (start_at mark ns j)) (λ j h. u16-bytes (start_at mark ns j) (omega (arith, start_at-le mark ns (length ns) j h))))
      (append-bytes (row_bytes f) (trailer_bytes mark f w ns) (take-bytes (rows_size f.kind) f.rows r)
      (append-bytes (f.grid.cols ∷ f.grid.rows ∷ f.kind ∷ w ∷ []) from_count (four_bytes f.grid.cols f.grid.rows f.kind w a b k x)
      (append-bytes (u16_bytes (length ns)) from_directory (u16-bytes (length ns) (omega arith))
      (append-bytes (u16_bytes (start_at mark ns (length ns))) from_length (u16-bytes (start_at mark ns (length ns)) (omega arith))
      (append-bytes (u16_bytes (sheet_length mark f ns)) (first_mark ∷ mark_byte mark ∷ []) (u16-bytes (sheet_length mark f ns) l) (mark-bytes mark)))))))
