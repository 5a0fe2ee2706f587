-- A netlist file that is read is the bytes made of what it lists (specs/Encoding.antt). Assumes nothing.
-- joined-parts: lists that stand in another, one behind the other. part_bytes_lem, record-bytes-lt: a part of bytes, a record, has bytes.
-- u16_bytes-part, u16_bytes-parts: the bytes of one u16 and of two that are read. head-own, record_from-net_of, record-own: a record. records_to-own, offsets_to-own: the
-- records and the directory. encode-own: the whole file.
use mathlib.Core.Path.{◌≡◌, refl, sym, ap, ap₂, ◌∙◌}
use mathlib.Core.List.{List, [], ◌∷◌, ◌++◌}
use Prim.Native.Nat.{ℕ, zero, suc, ◌+◌, ◌*◌, ◌/◌, ◌%◌, ◌≤◌, ◌<◌}
use native.Mathlib.Omega.{arith}
use native.Mathlib.Decide.{dec_lt}
use lib.ListN.{length, get_or, take, drop, length-append, length-take, length-drop, take-append-drop, get_or-eq_default}
use lib.Seq.{take-add, take_all, drop-drop, drop-cons, get_or-take, get_or-drop}
use Rattle.bounded.specs.Bounded.{joined}
use Rattle.bounded.proofs.BoundedLaws.{joined-even}
use Rattle.net.specs.Net.{Net, Mark, short, long, u16_at, number_size, count_place, channel_place, record_length, number_in, count_at, net_of, size}
use Rattle.net.specs.Facts.{WholeRecord}
use Rattle.net.proofs.NetLaws.{u16_at-lt, net_of-number, net_of-size, net_of-channel, net_of-parent, number_in-short, number_in-long}
use Rattle.net.specs.Nets.{no_net, net_in}
use Rattle.netlist.specs.Netlist.{mark_of, trailer_of, number_size_of, fabric_of, width_of, net_count, directory_of, offset_of, record_part, record_bytes, nets}
use Rattle.netlist.specs.Facts.{Readable}
use Rattle.netlist.proofs.NetlistLaws.{start_of-below, readable-directory, record-length, record-whole, nets-length, nets-at}
use Rattle.encoding.specs.Encoding.{u16_bytes, number_bytes, head_bytes, entry_bytes, record_from, records_to, start_at, offsets_to, encode}
use Rattle.encoding.specs.Facts.{entry_length}
use Rattle.encoding.proofs.RecordLaws.{u16_bytes-length, u16_bytes-read, entry_bytes-length}
use Rattle.encoding.proofs.EncodingLaws.{offsets_to-length}
use Rattle.encoding.proofs.SheetLaws.{directory-start_at, directory-end, trailer-kept}

-- ---- joined

-- lists that stand in l, one behind the other from its start
joined-parts : {A : Type 0} (k : ℕ) (f : ℕ → List A) (l : List A) → ((i : ℕ) → i < k → f i ≡ take (length (f i)) (drop (length (joined i f)) l))
    → joined k f ≡ take (length (joined k f)) l
unfolding joined
joined-parts zero f l h = refl
joined-parts (suc k) f l h =
    ap₂ ◌++◌ (joined-parts k f l (λ i p. h i (omega arith))) (h k (omega arith))
    ∙ sym (take-add (length (joined k f)) (length (f k)) l)
    ∙ ap (λ (m : ℕ). take m l) (sym (length-append (joined k f) (f k)))

-- ---- bytes

pub part_bytes_lem : (l : List ℕ) (o m : ℕ) → ((k : ℕ) → get_or l k 0 < 256) → (k : ℕ) → get_or (take m (drop o l)) k 0 < 256
part_bytes_lem l o m h k = at (dec_lt k m)
  where
    at : Dec (k < m) → get_or (take m (drop o l)) k 0 < 256
    at (yes p) = omega (arith, get_or-take m (drop o l) k 0 p, get_or-drop o l k 0, h (o + k))
    at (no p) = omega (arith, get_or-eq_default (take m (drop o l)) 0 {n = k} (omega (arith, length-take m (drop o l))))

pub record-bytes-lt : (s : List ℕ) → ((k : ℕ) → get_or s k 0 < 256) → (k j : ℕ) → get_or (record_bytes s k) j 0 < 256
unfolding record_bytes record_part
record-bytes-lt s h k = part_bytes_lem s (offset_of s k) (record_length (number_size_of s) (count_at (number_size_of s) s (offset_of s k))) h

-- ---- u16_bytes

-- the bytes of a u16 that is read are the part that it is read from
u16_bytes-part : (l : List ℕ) (k : ℕ) → get_or l k 0 < 256 → k + 2 ≤ length l → u16_bytes (u16_at l k) ≡ take 2 (drop k l)
u16_bytes-part l k h p =
    let e : suc k ≡ k + 1 = omega arith in
    u16_bytes-read l k h
    ∙ ap (λ (j : ℕ). get_or l k 0 ∷ get_or l j 0 ∷ []) (sym e)
    ∙ ap (λ (t : List ℕ). get_or l k 0 ∷ take 1 t) (sym (drop-cons l (suc k) 0 (omega arith)))
    ∙ ap (take 2) (sym (drop-cons l k 0 (omega arith)))

-- two of them, one behind the other
u16_bytes-parts : (l : List ℕ) (k : ℕ) → ((j : ℕ) → get_or l j 0 < 256) → k + 4 ≤ length l
    → u16_bytes (u16_at l k) ++ u16_bytes (u16_at l (k + 2)) ≡ take 4 (drop k l)
u16_bytes-parts l k h p =
    ap₂ ◌++◌ (u16_bytes-part l k (h k) (omega arith))
    (u16_bytes-part l (k + 2) (h (k + 2)) (omega arith) ∙ ap (take 2) (sym (drop-drop 2 k l)))
    ∙ sym (take-add 2 2 (drop k l))

-- ---- number_bytes

-- the bytes of a net number that is read are those that stand first
number-own : (mark : Mark) (r : List ℕ) → ((k : ℕ) → get_or r k 0 < 256) → 4 ≤ length r → number_bytes mark (number_in (number_size mark) r) ≡ take (number_size mark) r
unfolding number_bytes number_size
number-own short r bytes l = ap u16_bytes (number_in-short 2 r refl) ∙ u16_bytes-part r 0 (bytes 0) (omega arith)
number-own long r bytes l =
    let e = number_in-long 4 r refl in
    let h = u16_at-lt r bytes 0 in
    let low : number_in 4 r % 65536 ≡ u16_at r 0 = omega arith in
    let high : number_in 4 r / 65536 ≡ u16_at r 2 = omega arith in
    ap₂ (λ (x y : ℕ). u16_bytes x ++ u16_bytes y) low high ∙ u16_bytes-parts r 0 bytes l

-- ---- record_from

module _ (mark : Mark) (r : List ℕ) (w : WholeRecord (number_size mark) r) (bytes : (k : ℕ) → get_or r k 0 < 256) where
  -- how many bytes a net number has
  abbrev z : ℕ
  z = number_size mark

  abbrev n : Net
  n = net_of z r

  -- the head of a record that is read: its net number and its entry count
  pub head-own : head_bytes mark n ≡ take (record_length z 0) r
  unfolding head_bytes
  head-own =
      let e : z + 2 ≡ record_length z 0 = omega arith in
      let place : 0 + count_place z ≡ z = omega arith in
      ap₂ (λ (x y : ℕ). number_bytes mark x ++ u16_bytes y) (net_of-number z r) (net_of-size z r ∙ ap (u16_at r) place)
      ∙ ap₂ ◌++◌ (number-own mark r bytes (omega arith)) (u16_bytes-part r z (bytes z) (omega arith))
      ∙ sym (take-add z 2 r)
      ∙ ap (λ (k : ℕ). take k r) e

  entry-own : (i : ℕ) → i < size n
      → entry_bytes n i ≡ take (length (entry_bytes n i)) (drop (length (joined i (entry_bytes n))) (drop (record_length z 0) r))
  unfolding entry_bytes
  entry-own i h =
      let l : i < count_at z r 0 = omega (arith, net_of-size z r) in
      let before = joined-even 4 i (entry_bytes n) (entry_bytes-length n) in
      let place : channel_place z i ≡ record_length z 0 + length (joined i (entry_bytes n)) = omega arith in
      ap₂ (λ (x y : ℕ). u16_bytes x ++ u16_bytes y) (net_of-channel z r i l) (net_of-parent z r i l)
      ∙ u16_bytes-parts r (channel_place z i) bytes (omega arith)
      ∙ ap (λ (j : ℕ). take entry_length (drop j r)) place
      ∙ ap (take entry_length) (sym (drop-drop (length (joined i (entry_bytes n))) (record_length z 0) r))
      ∙ ap (λ (m : ℕ). take m (drop (length (joined i (entry_bytes n))) (drop (record_length z 0) r))) (sym (entry_bytes-length n i))

  -- a record that is read is the record of its net
  pub record_from-net_of : record_from mark n ≡ r
  unfolding record_from
  record_from-net_of =
      let all = joined-even 4 (size n) (entry_bytes n) (entry_bytes-length n) in
      let long : length (drop (record_length z 0) r) ≤ length (joined (size n) (entry_bytes n)) = omega (arith, length-drop (record_length z 0) r, net_of-size z r) in
      ap₂ ◌++◌ head-own (joined-parts (size n) (entry_bytes n) (drop (record_length z 0) r) entry-own ∙ take_all _ (drop (record_length z 0) r) long)
      ∙ take-append-drop (record_length z 0) r

-- ---- encode

module _ (s : List ℕ) (r : Readable s) (bytes : (k : ℕ) → get_or s k 0 < 256) where
  -- record k: its offset, its bytes, and where they stand
  offset-own : (k : ℕ) → k < net_count s → offset_of s k ≡ start_at (mark_of s) (nets s) k
  offset-own k h = sym (start_of-below s k h) ∙ directory-start_at s r k (omega arith)

  pub record-own : (k : ℕ) → k < net_count s → record_from (mark_of s) (net_in (nets s) k) ≡ record_bytes s k
  unfolding record_bytes record_part trailer_of
  record-own k h =
      ap (record_from (mark_of s)) (nets-at s k no_net h) ∙ record_from-net_of (mark_of s) (record_bytes s k) (record-whole r k h) (record-bytes-lt s bytes k)

  record-stands : (k : ℕ) → k < net_count s → record_from (mark_of s) (net_in (nets s) k) ≡ take (length (record_from (mark_of s) (net_in (nets s) k))) (drop (start_at (mark_of s) (nets s) k) s)
  unfolding record_bytes record_part
  record-stands k h =
      let long = ap length (record-own k h) ∙ record-length r k h in
      record-own k h ∙ ap₂ (λ (m o : ℕ). take m (drop o s)) (sym long) (offset-own k h)

  -- the records of the nets are its first bytes
  records_to-own : (k : ℕ) → k ≤ net_count s → records_to (mark_of s) (nets s) k ≡ take (start_at (mark_of s) (nets s) k) s
  unfolding records_to
  records_to-own k h = joined-parts k (λ j. record_from (mark_of s) (net_in (nets s) j)) s (λ i p. record-stands i (omega arith))

  -- the bytes of offset k, and where they stand
  offset-stands : (k : ℕ) → k < net_count s
      → u16_bytes (start_at (mark_of s) (nets s) k) ≡ take (length (u16_bytes (start_at (mark_of s) (nets s) k))) (drop (length (offsets_to (mark_of s) (nets s) k)) (drop (directory_of s) s))
  offset-stands k h =
      let sum = readable-directory r in
      ap u16_bytes (sym (offset-own k h))
      ∙ u16_bytes-part s (directory_of s + 2 * k) (bytes (directory_of s + 2 * k)) (omega arith)
      ∙ ap (take 2) (sym (drop-drop (2 * k) (directory_of s) s))
      ∙ ap₂ (λ (m o : ℕ). take m (drop o (drop (directory_of s) s))) (sym (u16_bytes-length (start_at (mark_of s) (nets s) k))) (sym (offsets_to-length (mark_of s) (nets s) k))

  -- their offsets are the first bytes of its directory
  offsets_to-own : (k : ℕ) → k ≤ net_count s → offsets_to (mark_of s) (nets s) k ≡ take (2 * k) (drop (directory_of s) s)
  unfolding offsets_to
  offsets_to-own k h =
      joined-parts k (λ j. u16_bytes (start_at (mark_of s) (nets s) j)) (drop (directory_of s) s) (λ i p. offset-stands i (omega arith))
      ∙ ap (λ (m : ℕ). take m (drop (directory_of s) s)) (offsets_to-length (mark_of s) (nets s) k)

  -- a sheet is the encoding of what it lists
  pub encode-own : encode (mark_of s) (fabric_of s) (width_of s) (nets s) ≡ s
  unfolding encode
  encode-own =
      let d : ℕ = directory_of s in
      let m : ℕ = 2 * net_count s in
      let count = nets-length s in
      let end = directory-end s r in
      let records = records_to-own (length (nets s)) (omega arith) ∙ ap (λ (o : ℕ). take o s) (sym end) in
      let offsets = ap (offsets_to (mark_of s) (nets s)) count ∙ offsets_to-own (net_count s) (omega arith) in
      let rest = sym (trailer-kept s r bytes (nets s) count (sym end)) ∙ sym (drop-drop m d s) in
      ap₂ ◌++◌ records (ap₂ ◌++◌ offsets rest ∙ take-append-drop m (drop d s)) ∙ take-append-drop d s
