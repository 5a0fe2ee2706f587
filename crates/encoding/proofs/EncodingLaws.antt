-- Laws of the bytes of a netlist file (specs/Encoding.antt): they are read back. Assumes nothing.
-- records_to, offsets_to: none, one more; start_at: where the next record starts; the offsets' length and values. row_bytes, trailer_bytes: their
-- length. encode: its length, its trailer, its rows, its directory, each record's place, size and bytes, and the nets that it is read as.
use mathlib.Core.Path.{◌≡◌, refl, sym, ap, ap₂, ◌∙◌}
use mathlib.Core.List.{List, [], ◌∷◌, ◌++◌, append_assoc}
use Prim.Native.Nat.{ℕ, ◌+◌, ◌-◌, ◌*◌, ◌≤◌, ◌<◌}
use native.Mathlib.Omega.{arith}
use native.Mathlib.Decide.{dec_lt, ℕ_discrete}
use lib.ListN.{length, get_or, take, drop, length-append, length-drop}
use lib.Seq.{length-take-le, take_all, drop-append_seam, get_or-drop, drop-drop, take_at, drop_at, drop-append-le, take-append-le, ext_get_or}
use Rattle.bounded.proofs.BoundedLaws.{joined-none, joined-more, joined-le, joined-part, joined-even}
use Rattle.net.specs.Net.{Net, Mark, number_size, u16_at, record_length, count_at, net_of, size}
use Rattle.net.proofs.NetLaws.{count_at-part}
use Rattle.switchbox.specs.declared.Fabric.{Fabric}
use Rattle.switchbox.specs.SwitchBox.{rows_kind, rows_length, rows_size}
use Rattle.switchbox.proofs.RowLaws.{rows_size-own, rows_size-le}
use Rattle.net.specs.Nets.{no_net, net_in}
use Rattle.netlist.specs.declared.Trailer.{Trailer}
use Rattle.netlist.specs.Netlist.{trailer_length, first_mark, mark_byte, mark_of, trailer_of, number_size_of, kind_of, rows_of, fabric_of, net_count, directory_of, offset_of, start_of, record_part, record_bytes, net_at, nets}
use Rattle.netlist.proofs.NetlistLaws.{mark_of-byte, rows_of-own, rows_of-none, start_of-below, start_of-end, nets-length, nets-at}
use Rattle.encoding.specs.Encoding.{u16_bytes, record_from, records_to, start_at, offsets_to, row_bytes, sheet_length, trailer_bytes, encode, Rowed, ReadAs}
use Rattle.encoding.proofs.RecordLaws.{u16_at-behind, u16_at-before, u16_at-drop, u16_at-joined, u16_bytes-length, u16_at-place}
use Rattle.encoding.proofs.RecordLaws.{record_from-length, record_from-count, net_of-record_from}

-- ---- records_to, start_at

pub records_to-none : (mark : Mark) (ns : List Net) → records_to mark ns 0 ≡ []
unfolding records_to
records_to-none mark ns = joined-none (λ j. record_from mark (net_in ns j))

-- one record more, as a loop counts
pub records_to-more : (mark : Mark) (ns : List Net) (k : ℕ) → records_to mark ns (k + 1) ≡ records_to mark ns k ++ record_from mark (net_in ns k)
unfolding records_to
records_to-more mark ns k = joined-more k (λ j. record_from mark (net_in ns j))

pub start_at-none : (mark : Mark) (ns : List Net) → start_at mark ns 0 ≡ 0
start_at-none mark ns = ap length (records_to-none mark ns)

pub start_at-more : (mark : Mark) (ns : List Net) (k : ℕ) → start_at mark ns (k + 1) ≡ start_at mark ns k + record_length (number_size mark) (size (net_in ns k))
start_at-more mark ns k =
    ap length (records_to-more mark ns k)
    ∙ length-append (records_to mark ns k) (record_from mark (net_in ns k))
    ∙ ap (λ (m : ℕ). start_at mark ns k + m) (record_from-length mark (net_in ns k))

-- record i stands before each later place
pub start_at-le : (mark : Mark) (ns : List Net) (k i : ℕ) → i < k → start_at mark ns i + record_length (number_size mark) (size (net_in ns i)) ≤ start_at mark ns k
unfolding records_to
start_at-le mark ns k i h = omega (arith, joined-le k i (λ j. record_from mark (net_in ns j)) h, record_from-length mark (net_in ns i))

-- ---- offsets_to

pub offsets_to-none : (mark : Mark) (ns : List Net) → offsets_to mark ns 0 ≡ []
unfolding offsets_to
offsets_to-none mark ns = joined-none (λ j. u16_bytes (start_at mark ns j))

-- one offset more, as a loop counts
pub offsets_to-more : (mark : Mark) (ns : List Net) (k : ℕ) → offsets_to mark ns (k + 1) ≡ offsets_to mark ns k ++ u16_bytes (start_at mark ns k)
unfolding offsets_to
offsets_to-more mark ns k = joined-more k (λ j. u16_bytes (start_at mark ns j))

pub offsets_to-length : (mark : Mark) (ns : List Net) (k : ℕ) → length (offsets_to mark ns k) ≡ 2 * k
unfolding offsets_to
offsets_to-length mark ns k = omega (arith, joined-even 2 k (λ j. u16_bytes (start_at mark ns j)) (λ j. u16_bytes-length (start_at mark ns j)))

offsets_to-at : (mark : Mark) (ns : List Net) (k i : ℕ) → i < k → u16_at (offsets_to mark ns k) (2 * i) ≡ start_at mark ns i
unfolding offsets_to u16_bytes
offsets_to-at mark ns k i h =
    let e : 2 * i ≡ length (offsets_to mark ns i) + 0 = omega (arith, offsets_to-length mark ns i) in
    ap (u16_at (offsets_to mark ns k)) e
    ∙ u16_at-joined k (λ j. u16_bytes (start_at mark ns j)) i 0 h (omega arith)
    ∙ u16_at-place [] [] (start_at mark ns i) 0 refl

-- ---- row_bytes

row_bytes-length : (f : Fabric) → length f.rows ≡ rows_length → length (row_bytes f) ≡ rows_size f.kind
unfolding row_bytes
row_bytes-length f z = length-take-le (rows_size f.kind) f.rows (omega (arith, rows_size-le f.kind))

row_bytes-own : (f : Fabric) → length f.rows ≡ rows_length → f.kind ≡ rows_kind → row_bytes f ≡ f.rows
unfolding row_bytes
row_bytes-own f z e = take_all (rows_size f.kind) f.rows (omega (arith, rows_size-own f.kind e))

-- ---- trailer_bytes, encode

module _ (mark : Mark) (f : Fabric) (w : ℕ) (ns : List Net) where
  trailer_bytes-length : length (trailer_bytes mark f w ns) ≡ trailer_length
  unfolding trailer_bytes u16_bytes
  trailer_bytes-length = refl

  -- with rows of any length
  encode-sum : length (encode mark f w ns) ≡ start_at mark ns (length ns) + 2 * length ns + length (row_bytes f) + trailer_length
  unfolding encode
  encode-sum =
      omega (
        arith,
        length-append (records_to mark ns (length ns)) (offsets_to mark ns (length ns) ++ (row_bytes f ++ trailer_bytes mark f w ns)),
        length-append (offsets_to mark ns (length ns)) (row_bytes f ++ trailer_bytes mark f w ns),
        length-append (row_bytes f) (trailer_bytes mark f w ns),
        offsets_to-length mark ns (length ns),
        trailer_bytes-length,
      )

  pub encode-length : length f.rows ≡ rows_length → length (encode mark f w ns) ≡ sheet_length mark f ns
  encode-length z = omega (arith, encode-sum, row_bytes-length f z)

  -- behind the directory stand the rows and the trailer
  encode-end : (k : ℕ) → start_at mark ns (length ns) + 2 * length ns ≡ k → drop k (encode mark f w ns) ≡ row_bytes f ++ trailer_bytes mark f w ns
  unfolding encode
  encode-end k e =
      ap (drop k) (sym (append_assoc (records_to mark ns (length ns)) (offsets_to mark ns (length ns)) (row_bytes f ++ trailer_bytes mark f w ns)))
      ∙ drop_at (records_to mark ns (length ns) ++ offsets_to mark ns (length ns)) (row_bytes f ++ trailer_bytes mark f w ns) k
      (omega (arith, length-append (records_to mark ns (length ns)) (offsets_to mark ns (length ns)), offsets_to-length mark ns (length ns)))

  -- the last twelve bytes
  last : drop (length (encode mark f w ns) - trailer_length) (encode mark f w ns) ≡ trailer_bytes mark f w ns
  last =
      let k : ℕ = start_at mark ns (length ns) + 2 * length ns in
      let place : length (encode mark f w ns) - trailer_length ≡ k + length (row_bytes f) = omega (arith, encode-sum) in
      ap (λ (j : ℕ). drop j (encode mark f w ns)) place
      ∙ sym (drop-drop (length (row_bytes f)) k (encode mark f w ns))
      ∙ ap (drop (length (row_bytes f))) (encode-end k refl)
      ∙ drop-append_seam (row_bytes f) (trailer_bytes mark f w ns)

  pub trailer-byte : (j : ℕ) → get_or (encode mark f w ns) (length (encode mark f w ns) - trailer_length + j) 0 ≡ get_or (trailer_bytes mark f w ns) j 0
  trailer-byte j = sym (get_or-drop (length (encode mark f w ns) - trailer_length) (encode mark f w ns) j 0) ∙ ap (λ (t : List ℕ). get_or t j 0) last

  pub trailer-u16 : (j : ℕ) → u16_at (encode mark f w ns) (length (encode mark f w ns) - trailer_length + j) ≡ u16_at (trailer_bytes mark f w ns) j
  trailer-u16 j = sym (u16_at-drop (encode mark f w ns) (length (encode mark f w ns) - trailer_length) j) ∙ ap (λ (t : List ℕ). u16_at t j) last

  trailer-nets : u16_at (trailer_bytes mark f w ns) 4 ≡ length ns
  unfolding trailer_bytes u16_bytes
  trailer-nets =
      u16_at-place (f.grid.cols ∷ f.grid.rows ∷ f.kind ∷ w ∷ []) (u16_bytes (start_at mark ns (length ns)) ++ (u16_bytes (sheet_length mark f ns) ++ (first_mark ∷ mark_byte mark ∷ [])))
      (length ns) 4 refl

  trailer-directory : u16_at (trailer_bytes mark f w ns) 6 ≡ start_at mark ns (length ns)
  unfolding trailer_bytes u16_bytes
  trailer-directory =
      u16_at-place (f.grid.cols ∷ f.grid.rows ∷ f.kind ∷ w ∷ u16_bytes (length ns)) (u16_bytes (sheet_length mark f ns) ++ (first_mark ∷ mark_byte mark ∷ []))
      (start_at mark ns (length ns)) 6 refl

  pub trailer-length : u16_at (trailer_bytes mark f w ns) 8 ≡ sheet_length mark f ns
  unfolding trailer_bytes u16_bytes
  trailer-length =
      u16_at-place (f.grid.cols ∷ f.grid.rows ∷ f.kind ∷ w ∷ (u16_bytes (length ns) ++ u16_bytes (start_at mark ns (length ns)))) (first_mark ∷ mark_byte mark ∷ [])
      (sheet_length mark f ns) 8 refl

  -- the last byte, and the mark by it
  pub encode-last : get_or (encode mark f w ns) (length (encode mark f w ns) - 1) 0 ≡ mark_byte mark
  unfolding trailer_bytes u16_bytes
  encode-last =
      let e : length (encode mark f w ns) - 1 ≡ length (encode mark f w ns) - trailer_length + 11 = omega (arith, encode-sum) in
      ap (λ (j : ℕ). get_or (encode mark f w ns) j 0) e ∙ trailer-byte 11

  pub encode-mark_of : mark_of (encode mark f w ns) ≡ mark
  encode-mark_of = mark_of-byte (encode mark f w ns) mark encode-last

  pub encode-trailer : trailer_of (encode mark f w ns)
      ≡ record { grid = f.grid; kind = f.kind; width = w; nets = length ns; directory = start_at mark ns (length ns); numbersize = number_size mark }
  unfolding trailer_of trailer_bytes
  encode-trailer =
      let at : ℕ = length (encode mark f w ns) - trailer_length in
      let first : get_or (encode mark f w ns) at 0 ≡ f.grid.cols = ap (λ (j : ℕ). get_or (encode mark f w ns) j 0) (omega arith) ∙ trailer-byte 0 in
      let second : get_or (encode mark f w ns) (at + 1) 0 ≡ f.grid.rows = trailer-byte 1 in
      let third : get_or (encode mark f w ns) (at + 2) 0 ≡ f.kind = trailer-byte 2 in
      let fourth : get_or (encode mark f w ns) (at + 3) 0 ≡ w = trailer-byte 3 in
      let count : u16_at (encode mark f w ns) (at + 4) ≡ length ns = trailer-u16 4 ∙ trailer-nets in
      let directory : u16_at (encode mark f w ns) (at + 6) ≡ start_at mark ns (length ns) = trailer-u16 6 ∙ trailer-directory in
      λ i. record {
        grid = record { cols = first i; rows = second i };
        kind = third i;
        width = fourth i;
        nets = count i;
        directory = directory i;
        numbersize = number_size (encode-mark_of i);
      }

  -- ---- the rows

  pub encode-kind : kind_of (encode mark f w ns) ≡ f.kind
  encode-kind = ap (λ (t : Trailer). t.kind) encode-trailer

  pub encode-rows : Rowed f → rows_of (encode mark f w ns) ≡ f.rows
  encode-rows r = at (ℕ_discrete f.kind rows_kind)
    where
      at : Dec (f.kind ≡ rows_kind) → rows_of (encode mark f w ns) ≡ f.rows
      at (yes e) =
          let size = rows_size-own f.kind e in
          rows_of-own (encode mark f w ns) (encode-kind ∙ e)
          ∙ ap (take rows_length) (encode-end (length (encode mark f w ns) - trailer_length - rows_length) (omega (arith, encode-length r.sized)))
          ∙ take_at (row_bytes f) (trailer_bytes mark f w ns) rows_length (row_bytes-length f r.sized ∙ size)
          ∙ row_bytes-own f r.sized e
      at (no e) = rows_of-none (encode mark f w ns) (λ q. e (sym encode-kind ∙ q)) ∙ sym (r.none e)

  pub encode-fabric : Rowed f → fabric_of (encode mark f w ns) ≡ f
  encode-fabric r = λ i. record { grid = (encode-trailer i).grid; kind = (encode-trailer i).kind; rows = encode-rows r i }

  -- ---- the records

  pub encode-count : net_count (encode mark f w ns) ≡ length ns
  encode-count = ap (λ (t : Trailer). t.nets) encode-trailer

  pub encode-number_size : number_size_of (encode mark f w ns) ≡ number_size mark
  encode-number_size = ap (λ (t : Trailer). t.numbersize) encode-trailer

  pub encode-directory : directory_of (encode mark f w ns) ≡ start_at mark ns (length ns)
  encode-directory = ap (λ (t : Trailer). t.directory) encode-trailer

  encode-offset : (k : ℕ) → k < length ns → offset_of (encode mark f w ns) k ≡ start_at mark ns k
  unfolding encode
  encode-offset k h =
      let records : List ℕ = records_to mark ns (length ns) in
      let offsets : List ℕ = offsets_to mark ns (length ns) in
      ap (λ (o : ℕ). u16_at (encode mark f w ns) (o + 2 * k)) encode-directory
      ∙ u16_at-behind records (offsets ++ (row_bytes f ++ trailer_bytes mark f w ns)) (2 * k)
      ∙ u16_at-before offsets (row_bytes f ++ trailer_bytes mark f w ns) (2 * k) (omega (arith, offsets_to-length mark ns (length ns)))
      ∙ offsets_to-at mark ns (length ns) k h

  -- where record k starts; behind the last one, where the directory does
  pub encode-start : (k : ℕ) → k ≤ length ns → start_of (encode mark f w ns) k ≡ start_at mark ns k
  encode-start k h = at (dec_lt k (length ns))
    where
      at : Dec (k < length ns) → start_of (encode mark f w ns) k ≡ start_at mark ns k
      at (yes l) = start_of-below (encode mark f w ns) k (omega (arith, encode-count)) ∙ encode-offset k l
      at (no l) =
          let q : length ns ≡ k = omega arith in
          start_of-end (encode mark f w ns) k (omega (arith, encode-count)) ∙ encode-directory ∙ ap (start_at mark ns) q

  -- the bytes of record k, by where it starts and how long it is
  encode-part : (k : ℕ) → k < length ns → take (record_length (number_size mark) (size (net_in ns k))) (drop (start_at mark ns k) (encode mark f w ns)) ≡ record_from mark (net_in ns k)
  unfolding encode records_to
  encode-part k h =
      let records : List ℕ = records_to mark ns (length ns) in
      let rest : List ℕ = offsets_to mark ns (length ns) ++ (row_bytes f ++ trailer_bytes mark f w ns) in
      let room = start_at-le mark ns (length ns) k h in
      ap (take (record_length (number_size mark) (size (net_in ns k)))) (drop-append-le (start_at mark ns k) records rest (omega arith))
      ∙ take-append-le (record_length (number_size mark) (size (net_in ns k))) (drop (start_at mark ns k) records) rest (omega (arith, length-drop (start_at mark ns k) records))
      ∙ ap (λ (m : ℕ). take m (drop (start_at mark ns k) records)) (sym (record_from-length mark (net_in ns k)))
      ∙ joined-part (length ns) (λ j. record_from mark (net_in ns j)) k h

  pub encode-size : (k : ℕ) → k < length ns → count_at (number_size mark) (encode mark f w ns) (start_at mark ns k) ≡ size (net_in ns k)
  encode-size k h =
      sym (count_at-part (number_size mark) (encode mark f w ns) (start_at mark ns k) (record_length (number_size mark) (size (net_in ns k))) (omega arith))
      ∙ ap (λ (r : List ℕ). count_at (number_size mark) r 0) (encode-part k h)
      ∙ record_from-count mark (net_in ns k)

  pub encode-record : (k : ℕ) → k < length ns → record_bytes (encode mark f w ns) k ≡ record_from mark (net_in ns k)
  unfolding record_bytes record_part
  encode-record k h =
      ap₂ (λ (z o : ℕ). take (record_length z (count_at z (encode mark f w ns) o)) (drop o (encode mark f w ns))) encode-number_size (encode-offset k h)
      ∙ ap (λ (m : ℕ). take (record_length (number_size mark) m) (drop (start_at mark ns k) (encode mark f w ns))) (encode-size k h)
      ∙ encode-part k h

  -- ---- the nets are read back

  pub encode-net_at : (k : ℕ) → k < length ns → net_at (encode mark f w ns) k ≡ net_in ns k
  encode-net_at k h = ap₂ net_of encode-number_size (encode-record k h) ∙ net_of-record_from mark (net_in ns k)

  pub encode-nets : nets (encode mark f w ns) ≡ ns
  encode-nets =
      let same : length (nets (encode mark f w ns)) ≡ length ns = nets-length (encode mark f w ns) ∙ encode-count in
      ext_get_or no_net (nets (encode mark f w ns)) ns same
      (λ k h. nets-at (encode mark f w ns) k no_net (omega (arith, encode-count)) ∙ encode-net_at k (omega arith))

  pub encode-read : Rowed f → ReadAs (encode mark f w ns) mark f w ns
  encode-read r = record {
    marked = encode-mark_of;
    fabric = encode-fabric r;
    width = ap (λ (t : Trailer). t.width) encode-trailer;
    listed = encode-nets;
  }
