-- Laws of the netlist file (specs/Netlist.antt). Assumes nothing.
-- The limits: what the longest sheet is made of. within, record_fits, bad_directory: a test to its facts and back. trailer_of, start_of: their
-- values. mark_of: by the last byte. part_bytes: a part by its end. as-in-01, as-in-02: where the fields of a record stand with each mark.
-- Readable: what the numbers 1 to 5 and 18 leave of the trailer, the directory and the records.
-- nets: how many, and each. entry_count: one net more, all nets. refusal: what is left of the table on the way through the tests; a sheet that Read accepts is readable
-- and passes every test.
use mathlib.Core.Path.{◌≡◌, refl, sym, ap, ap₂, ◌∙◌}
use mathlib.Core.Bool.{Bool, true, false, not}
use mathlib.Core.Logic.{◌⊎◌, inl, inr}
use mathlib.Core.List.{List, [], ◌∷◌}
use Prim.Native.Nat.{ℕ, ◌+◌, ◌-◌, ◌*◌, ◌≤◌, ◌<◌}
use native.Mathlib.Omega.{arith}
use native.Mathlib.Decide.{ℕ_discrete}
use borrow.Author.Tests.{leb-true, ltb-false, eqb-true, not-false, le-leb, lt-ltb, le-ltb, eq-eqb, ne_eqb}
use lib.Dec.{leb, eqb}
use lib.ListN.{length, get_or, take, drop, replicate, length-drop}
use lib.Seq.{length-take-le}
use Rattle.bounded.specs.Bounded.{every}
use Rattle.bounded.proofs.BoundedLaws.{both_true, either_true, true-both, every-at, at_every, differ-once, build-length, build-at}
use Rattle.net.specs.Net.{Net, u16_at, max_entries, Mark, short, long, number_size, count_place, channel_place, parent_place, count_at, record_length, net_of, size}
use Rattle.net.specs.declared.Test.{Test}
use Rattle.net.specs.declared.Test.TheVariants.{Channels, Repeats, Edges}
use Rattle.net.proofs.NetLaws.{u16_at-part, count_at-part, number_size-le, number_size-short, number_size-long, number_size-cases, number_in-long, number_in-short, net_of-number, net_of-size, net_of-channel, net_of-parent}
use Rattle.net.specs.Facts.{WholeRecord, passes}
use Rattle.switchbox.specs.Facts.{AllowedKind, AllowedRows, Allowed}
use Rattle.grid.specs.Grid.{min_side, max_side}
use Rattle.grid.specs.declared.Grid.{Grid}
use Rattle.switchbox.specs.declared.Fabric.{Fabric}
use Rattle.switchbox.specs.SwitchBox.{rows_kind, rows_length, rows_size, rows_allowed, max_kind, max_width}
use Rattle.switchbox.proofs.RowLaws.{rows_size-own, rows_size-le, kind-allowed}
use Rattle.netlist.specs.declared.Trailer.{Trailer}
use Rattle.netlist.specs.declared.Part.{Part}
use Rattle.netlist.specs.Netlist.{first_mark, mark_byte, mark_of, trailer_of, number_size_of, part_bytes, rows_of, fabric_of, SameKind, grid_of, kind_of, width_of, net_count, directory_of, offset_of, start_of, record_part, record_bytes, net_at, nets, within}
use Rattle.netlist.specs.Netlist.{max_nets, trailer_length, max_sheet}
use Rattle.netlist.specs.Netlist.{bad_length, bad_mark, bad_grid, too_many_nets, record_fits, bad_directory, bad_rows, unknown_channel, repeated_channel, bad_edge, duplicate_net, sheet_conditions, refusal, WellFormed}
use Rattle.numbers.proofs.NumbersLaws.{Clear, condition_of, first_number-none, first_number-clear}
use Rattle.numbers.specs.Numbers.{first_number, length_no, mark_no, chip_no, crowd_no, directory_no, parameter_no, channel_no, twice_no, joint_no, name_no}
use Rattle.net.specs.Nets.{entry_count, no_net, net_in}
use Rattle.net.proofs.NetsLaws.{entry_count-more}
use Rattle.netlist.specs.Facts.{bad_net, Readable, LaidOut, AsIn01, AsIn02}
use Rattle.netlist.specs.Netlist.{net_count, net_at, nets}

-- ---- the limits

-- the longest sheet has the most nets of the most entries, an offset for each, rows and a trailer
pub max_sheet-sum : max_nets * (record_length (number_size long) max_entries + 2) + rows_length + trailer_length ≡ max_sheet
unfolding number_size
max_sheet-sum = refl

-- ---- within

pub within-true : (low high x : ℕ) → within low high x ≡ true → (low ≤ x) × (x ≤ high)
within-true low high x e = let b = both_true (leb low x) (leb x high) e in (leb-true low x b.0, leb-true x high b.1)

pub true-within : (low high x : ℕ) → low ≤ x → x ≤ high → within low high x ≡ true
true-within low high x l h = true-both (leb low x) (leb x high) (le-leb low x l) (le-leb x high h)

-- ---- trailer_of

-- the two fields of a trailer that the directory is found by
pub trailer-fields : (s : List ℕ) (trailer : Trailer) → trailer ≡ trailer_of s
    → (trailer.nets ≡ net_count s) × (trailer.directory ≡ directory_of s)
trailer-fields s trailer e = (ap (λ (x : Trailer). x.nets) e, ap (λ (x : Trailer). x.directory) e)

pub number_size_of-le : (s : List ℕ) → number_size_of s ≤ 4
unfolding trailer_of
number_size_of-le s = number_size-le (mark_of s)

pub number_size_of-cases : (s : List ℕ) → (number_size_of s ≡ 2) ⊎ (number_size_of s ≡ 4)
unfolding trailer_of
number_size_of-cases s = number_size-cases (mark_of s)

-- as a trailer that was read has it
pub trailer-size : (s : List ℕ) (trailer : Trailer) → trailer ≡ trailer_of s → (trailer.numbersize ≡ number_size_of s) × (trailer.numbersize ≤ 4)
trailer-size s trailer e = let z = ap (λ (x : Trailer). x.numbersize) e in (z, omega (arith, number_size_of-le s))

-- ---- mark_of

pub mark_of-long : (s : List ℕ) → get_or s (length s - 1) 0 ≡ mark_byte long → mark_of s ≡ long
unfolding mark_of
mark_of-long s e = rw (eq-eqb (get_or s (length s - 1) 0) (mark_byte long) e, mark_of)

pub mark_of-short : (s : List ℕ) → (get_or s (length s - 1) 0 ≡ mark_byte long → ⊥) → mark_of s ≡ short
unfolding mark_of
mark_of-short s e = rw (ne_eqb (get_or s (length s - 1) 0) (mark_byte long) e, mark_of)

-- a last byte that is a mark's tells it
pub mark_of-byte : (s : List ℕ) (mark : Mark) → get_or s (length s - 1) 0 ≡ mark_byte mark → mark_of s ≡ mark
unfolding mark_byte
mark_of-byte s short e = mark_of-short s (λ f. absurd (omega arith))
mark_of-byte s long e = mark_of-long s e

-- the last byte of a sheet that 2 does not refuse is its mark's
pub marked-byte : (s : List ℕ) → bad_mark s ≡ false
    → (get_or s (length s - 2) 0 ≡ first_mark) × (get_or s (length s - 1) 0 ≡ mark_byte (mark_of s)) × (u16_at s (length s - 4) ≡ length s)
unfolding bad_mark
marked-byte s e =
    let b = both_true _ (eqb (u16_at s (length s - 4)) (length s)) (not-false _ e) in
    let m = both_true (eqb (get_or s (length s - 2) 0) first_mark) _ b.0 in
    (eqb-true _ _ m.0, at (either_true (eqb last (mark_byte short)) (eqb last (mark_byte long)) m.1), eqb-true _ _ b.1)
  where
    last : ℕ
    last = get_or s (length s - 1) 0

    one : (mark : Mark) → last ≡ mark_byte mark → last ≡ mark_byte (mark_of s)
    one mark f = f ∙ ap mark_byte (sym (mark_of-byte s mark f))

    at : (eqb last (mark_byte short) ≡ true) ⊎ (eqb last (mark_byte long) ≡ true) → last ≡ mark_byte (mark_of s)
    at (inl f) = one short (eqb-true _ _ f)
    at (inr f) = one long (eqb-true _ _ f)

-- ---- part_bytes

-- the part that starts at p's offset and ends where p ends
pub part_bytes-end : (s : List ℕ) (p q : Part) → p ≡ q → take (p.offset + p.len - p.offset) (drop p.offset s) ≡ part_bytes s q
part_bytes-end s p q e = let m : p.offset + p.len - p.offset ≡ p.len = omega arith in ap (λ (n : ℕ). take n (drop p.offset s)) m ∙ ap (part_bytes s) e

-- ---- start_of

pub start_of-below : (s : List ℕ) (k : ℕ) → k < net_count s → start_of s k ≡ offset_of s k
unfolding start_of
start_of-below s k h = rw (lt-ltb k (net_count s) h, start_of)

pub start_of-end : (s : List ℕ) (k : ℕ) → net_count s ≤ k → start_of s k ≡ directory_of s
unfolding start_of
start_of-end s k h = rw (le-ltb k (net_count s) h, start_of)

-- ---- record_fits

-- how many entries the record that starts at `start_of s k` says it has
abbrev pub size_at : List ℕ → ℕ → ℕ
size_at s k = count_at (number_size_of s) s (start_of s k)

-- record k has 1 to 32 entries, and ends where the next one starts, at the directory at the latest
pub record RecordFits (s : List ℕ) (k : ℕ) : Type 0 where
  pub filled : 1 ≤ size_at s k
  pub short : size_at s k ≤ max_entries
  pub next : start_of s (k + 1) ≡ start_of s k + record_length (number_size_of s) (size_at s k)
  pub before : start_of s (k + 1) ≤ directory_of s

pub record_fits-true : (s : List ℕ) (k : ℕ) → record_fits s k ≡ true → RecordFits s k
unfolding record_fits
record_fits-true s k e =
    let b = both_true _ (leb (start_of s (k + 1)) (directory_of s)) e in
    let d = both_true (within 1 max_entries (size_at s k)) (eqb (start_of s (k + 1)) (start_of s k + record_length (number_size_of s) (size_at s k))) b.0 in
    let w = within-true 1 max_entries (size_at s k) d.0 in
    record { filled = w.0; short = w.1; next = eqb-true _ _ d.1; before = leb-true _ _ b.1 }

pub true-record_fits : (s : List ℕ) (k : ℕ) → RecordFits s k → record_fits s k ≡ true
unfolding record_fits
true-record_fits s k f =
    true-both _ _ (true-both _ _ (true-within 1 max_entries (size_at s k) f.filled f.short) (eq-eqb _ _ f.next)) (le-leb _ _ f.before)

-- ---- bad_directory

pub record Directory (s : List ℕ) : Type 0 where
  pub sum : directory_of s + 2 * net_count s + rows_size (kind_of s) + trailer_length ≡ length s
  pub first : start_of s 0 ≡ 0
  pub fits : (k : ℕ) → k < net_count s → RecordFits s k

pub directory-good : {s : List ℕ} → bad_directory s ≡ false → Directory s
unfolding bad_directory
directory-good {s} e =
    let b = both_true _ (every (net_count s) (record_fits s)) (not-false _ e) in
    let d = both_true (eqb (directory_of s + 2 * net_count s + rows_size (kind_of s) + trailer_length) (length s)) (eqb (start_of s 0) 0) b.0 in
    record { sum = eqb-true _ _ d.0; first = eqb-true _ _ d.1; fits = λ k h. record_fits-true s k (every-at _ _ b.1 k h) }

pub no-directory : (s : List ℕ) → (Directory s → ⊥) → true ≡ bad_directory s
no-directory s h = at (bad_directory s) (λ e. h (directory-good e))
  where
    at : (b : Bool) → (b ≡ false → ⊥) → true ≡ b
    at true f = refl
    at false f = absurd (f refl)

pub good-directory : {s : List ℕ} → Directory s → bad_directory s ≡ false
unfolding bad_directory
good-directory {s} d =
    let b = true-both _ _ (true-both _ _ (eq-eqb _ _ d.sum) (eq-eqb _ _ d.first)) (at_every (net_count s) (record_fits s) (λ k h. true-record_fits s k (d.fits k h))) in
    ap not b

-- ---- rows_of: by the kind

pub rows_of-own : (s : List ℕ) → kind_of s ≡ rows_kind → rows_of s ≡ take rows_length (drop (length s - trailer_length - rows_length) s)
unfolding rows_of
rows_of-own s e = rw (eq-eqb (kind_of s) rows_kind e, rows_of)

pub rows_of-none : (s : List ℕ) → (kind_of s ≡ rows_kind → ⊥) → rows_of s ≡ replicate rows_length 0
unfolding rows_of
rows_of-none s e = rw (ne_eqb (kind_of s) rows_kind e, rows_of)

-- those of kind 3 stand within a sheet whose length is the sum of its parts
pub rows-within : (before kind l : ℕ) → before + rows_size kind + trailer_length ≡ l → kind ≡ rows_kind → rows_length + trailer_length ≤ l
rows-within before kind l sum e = omega (arith, rows_size-own kind e)

-- ---- fabric_of: "A, B, kind"

pub same-fabric : (s t : List ℕ) → grid_of s ≡ grid_of t → SameKind s t → fabric_of s ≡ fabric_of t
same-fabric s t g k =
    ap (λ (x : Grid). record { grid = x; kind = kind_of s; rows = rows_of s }) g
    ∙ ap₂ (λ (x : ℕ) (r : List ℕ). record { grid = grid_of t; kind = x; rows = r }) k.kind k.rows

pub fabric-grid : (s t : List ℕ) → fabric_of s ≡ fabric_of t → grid_of s ≡ grid_of t
fabric-grid s t e = ap (λ (f : Fabric). f.grid) e

pub fabric-kind : (s t : List ℕ) → fabric_of s ≡ fabric_of t → SameKind s t
fabric-kind s t e = record { kind = ap (λ (f : Fabric). f.kind) e; rows = ap (λ (f : Fabric). f.rows) e }

-- ---- Readable

pub length-good : (s : List ℕ) → bad_length s ≡ false → (trailer_length ≤ length s) × (length s ≤ max_sheet)
unfolding bad_length
length-good s e = within-true trailer_length max_sheet (length s) (not-false _ e)

module _ {s : List ℕ} (r : Readable s) where
  pub readable-length : (trailer_length ≤ length s) × (length s ≤ max_sheet)
  readable-length = length-good s r.sized

  -- the four fields that number 3 looks at
  fields :
      (within min_side max_side (grid_of s).cols ≡ true)
      × (within min_side max_side (grid_of s).rows ≡ true)
      × (within 0 max_kind (kind_of s) ≡ true)
      × (within 1 max_width (width_of s) ≡ true)
  unfolding bad_grid
  fields =
      let w = both_true _ (within 1 max_width (width_of s)) (not-false _ r.grid) in
      let k = both_true _ (within 0 max_kind (kind_of s)) w.0 in
      let g = both_true (within min_side max_side (grid_of s).cols) (within min_side max_side (grid_of s).rows) k.0 in
      (g.0, g.1, k.1, w.1)

  pub readable-rows : rows_allowed (rows_of s) ≡ true
  unfolding bad_rows
  readable-rows = not-false _ r.rows

  pub readable-allowed : Allowed (fabric_of s)
  readable-allowed =
      let c = within-true min_side max_side (grid_of s).cols fields.0 in
      let d = within-true min_side max_side (grid_of s).rows fields.1 in
      let k = within-true 0 max_kind (kind_of s) fields.2 in
      let a : AllowedKind (kind_of s) = omega arith in
      let allowed : AllowedRows (kind_of s) (rows_of s) = (a, kind-allowed (kind_of s) (rows_of s) a readable-rows) in
      record { sized = record { cols_low = c.0; cols_high = c.1; rows_low = d.0; rows_high = d.1 }; rows = allowed }

  pub readable-width : (1 ≤ width_of s) × (width_of s ≤ max_width)
  readable-width = within-true 1 max_width (width_of s) fields.3

  pub readable-nets : net_count s ≤ max_nets
  unfolding too_many_nets
  readable-nets = ltb-false max_nets (net_count s) r.crowd

  pub readable-directory : directory_of s + 2 * net_count s + rows_size (kind_of s) + trailer_length ≡ length s
  readable-directory = (directory-good r.directory).sum

  -- what the directory says of record k, by its own offset
  pub readable-fits : (k : ℕ) → k < net_count s
      → (1 ≤ count_at (number_size_of s) s (offset_of s k)) × (count_at (number_size_of s) s (offset_of s k) ≤ max_entries) × (offset_of s k + record_length (number_size_of s) (count_at (number_size_of s) s (offset_of s k)) ≤ directory_of s)
  readable-fits k h =
      let f = (directory-good r.directory).fits k h in
      let e = start_of-below s k h in
      let n = ap (λ (o : ℕ). count_at (number_size_of s) s o) e in
      (omega arith, omega arith, omega arith)

  pub rows-length : length (rows_of s) ≡ rows_length
  rows-length = at (ℕ_discrete (kind_of s) rows_kind)
    where
      at : Dec (kind_of s ≡ rows_kind) → length (rows_of s) ≡ rows_length
      at (yes e) =
          ap length (rows_of-own s e)
          ∙ length-take-le rows_length (drop (length s - trailer_length - rows_length) s)
          (omega (arith, rows-within (directory_of s + 2 * net_count s) (kind_of s) (length s) readable-directory e, length-drop (length s - trailer_length - rows_length) s))
      at (no e) = ap length (rows_of-none s e)

  pub record-length : (k : ℕ) → k < net_count s → length (record_bytes s k) ≡ record_length (number_size_of s) (count_at (number_size_of s) s (offset_of s k))
  unfolding record_bytes record_part
  record-length k h =
      let f = readable-fits k h in
      let d = readable-directory in
      let m : record_length (number_size_of s) (count_at (number_size_of s) s (offset_of s k)) ≤ length (drop (offset_of s k) s) = omega (arith, length-drop (offset_of s k) s) in
      length-take-le (record_length (number_size_of s) (count_at (number_size_of s) s (offset_of s k))) (drop (offset_of s k) s) m

  pub record-whole : (k : ℕ) → k < net_count s → WholeRecord (number_size_of s) (record_bytes s k)
  unfolding record_bytes record_part
  record-whole k h =
      let f = readable-fits k h in
      let n : count_at (number_size_of s) (record_bytes s k) 0 ≡ count_at (number_size_of s) s (offset_of s k) = count_at-part (number_size_of s) s (offset_of s k) (record_length (number_size_of s) (count_at (number_size_of s) s (offset_of s k))) (omega arith) in
      record { marked = number_size_of-cases s; sized = number_size_of-le s; whole = omega (arith, record-length k h); filled = omega arith; short = omega arith }

  -- no record is empty
  pub record-filled : (k : ℕ) → k < net_count s → record_length (number_size_of s) 1 ≤ length (record_bytes s k)
  record-filled k h = let f = readable-fits k h in omega (arith, record-length k h)

  -- the trailer of a readable sheet, read once: its nets, its directory, and that both lie within the sheet
  pub readable-trailer : (trailer : Trailer) → trailer ≡ trailer_of s
      → (trailer.nets ≡ net_count s)
      × (trailer.directory ≡ directory_of s)
      × (trailer.directory + 2 * trailer.nets + rows_size trailer.kind + trailer_length ≡ length s)
      × (trailer.nets ≤ max_nets)
  readable-trailer trailer e =
      let f = trailer-fields s trailer e in
      let d = readable-directory in
      (f.0, f.1, omega (arith, ap (λ (t : Trailer). rows_size t.kind) e), omega (arith, readable-nets))

  -- a place that a loop over the nets reaches
  pub readable-below : (trailer : Trailer) → trailer ≡ trailer_of s → (k : ℕ) → k < trailer.nets → (k < net_count s) × (k < max_nets)
  readable-below trailer e k h = let w = readable-trailer trailer e in (omega arith, omega arith)

-- what is known of the trailer of a readable sheet, for the functions that name this set
pub ruleset of_trailer = (readable-trailer, readable-length, trailer-size, rows_size-le)

-- ---- net_at

-- a record that was read, with the trailer's size of a net number, is the net's
pub record-net : (s : List ℕ) {trailer : Trailer} → trailer ≡ trailer_of s → (k : ℕ) {b : List ℕ} {z : ℕ}
    → (b ≡ record_bytes s k) × (z ≡ trailer.numbersize) → net_of z b ≡ net_at s k
record-net s e k r = ap₂ net_of (r.1 ∙ ap (λ (t : Trailer). t.numbersize) e) r.0

-- ---- AsIn01, AsIn02

module _ {s : List ℕ} (r : Readable s) (k : ℕ) (h : k < net_count s) where
  abbrev z : ℕ
  z = number_size_of s

  abbrev o : ℕ
  o = offset_of s k

  -- a u16 of record k, by its place in the sheet
  field_at : (j i : ℕ) → j + 1 < record_length z (count_at z s o) → o + j ≡ i → u16_at (record_bytes s k) j ≡ u16_at s i
  unfolding record_bytes record_part
  field_at j i l e = u16_at-part s o (record_length z (count_at z s o)) j l ∙ ap (u16_at s) e

  laid_out : (at : ℕ) → z ≡ at → LaidOut s k at
  unfolding record_part
  laid_out at e =
      let f = readable-fits r k h in
      let n = net_of-size z (record_bytes s k) in
      let c : count_at z (record_bytes s k) 0 ≡ count_at z s o = field_at (0 + count_place z) (o + count_place z) (omega arith) (omega arith) in
      record {
        count = n ∙ c ∙ ap (u16_at s) (omega arith);
        channels = λ i l. net_of-channel z (record_bytes s k) i (omega arith) ∙ field_at (channel_place z i) _ (omega arith) (omega arith);
        parents = λ i l. net_of-parent z (record_bytes s k) i (omega arith) ∙ field_at (parent_place z i) _ (omega arith) (omega arith);
        len = omega arith;
      }

  -- under the mark 57 48 the record is as 01 says
  pub as-in-01 : mark_of s ≡ short → AsIn01 s k
  unfolding trailer_of
  as-in-01 m =
      let e : z ≡ 2 = ap number_size m ∙ number_size-short in
      let f = readable-fits r k h in
      record {
        number = net_of-number z (record_bytes s k) ∙ number_in-short z (record_bytes s k) e ∙ field_at 0 o (omega arith) (omega arith);
        rest = laid_out 2 e;
      }

  -- under the mark 57 49 as 02 says
  pub as-in-02 : mark_of s ≡ long → AsIn02 s k
  unfolding trailer_of u16_at
  as-in-02 m =
      let e : z ≡ 4 = ap number_size m ∙ number_size-long in
      let f = readable-fits r k h in
      let low = field_at 0 o (omega arith) (omega arith) in
      let high = field_at 2 (o + 2) (omega arith) (omega arith) in
      let last : o + 2 + 1 ≡ o + 3 = omega arith in
      let byte = ap (λ (j : ℕ). get_or s j 0) last in
      record {
        number = omega (arith, net_of-number z (record_bytes s k), number_in-long z (record_bytes s k) e, low, high, byte);
        rest = laid_out 4 e;
      }

-- ---- nets

pub nets-length : (s : List ℕ) → length (nets s) ≡ net_count s
unfolding nets
nets-length s = build-length (net_count s) (net_at s)

pub nets-at : (s : List ℕ) (k : ℕ) (d : Net) → k < net_count s → get_or (nets s) k d ≡ net_at s k
unfolding nets
nets-at s k d h = build-at (net_count s) (net_at s) k d h

pub net_in-nets : (s : List ℕ) (k : ℕ) → k < net_count s → net_in (nets s) k ≡ net_at s k
net_in-nets s k h = nets-at s k no_net h

-- ---- entry_count

-- one net of the sheet more
pub entry_count-nets : (s : List ℕ) (k : ℕ) → k < net_count s → entry_count (take (k + 1) (nets s)) ≡ entry_count (take k (nets s)) + size (net_at s k)
entry_count-nets s k h =
    let l : k < length (nets s) = omega (arith, nets-length s) in
    entry_count-more (nets s) k (net_at s k) l ∙ ap (λ (n : Net). entry_count (take k (nets s)) + size n) (nets-at s k (net_at s k) h)

-- ---- bad_net

-- the conditions of 6, 7 and 8
pub bad_net-channels : (s : List ℕ) → bad_net Channels s ≡ unknown_channel s
unfolding bad_net passes unknown_channel
bad_net-channels s = refl

pub bad_net-repeats : (s : List ℕ) → bad_net Repeats s ≡ repeated_channel s
unfolding bad_net passes repeated_channel
bad_net-repeats s = refl

pub bad_net-edges : (s : List ℕ) → bad_net Edges s ≡ bad_edge s
unfolding bad_net passes bad_edge
bad_net-edges s = refl

-- ---- refusal

module _ (s : List ℕ) where
  -- 1 comes first
  pub refusal-length : bad_length s ≡ true → refusal s ≡ length_no
  unfolding refusal first_number
  refusal-length e = rw (e, first_number)

  -- of a readable sheet the tests of the nets are left
  pub refusal-readable : Readable s
      → refusal s ≡ first_number (
      (channel_no, bad_net Channels s) ∷ (twice_no, bad_net Repeats s) ∷ (joint_no, bad_net Edges s) ∷ (name_no, duplicate_net s) ∷ [])
  unfolding refusal first_number bad_net passes unknown_channel repeated_channel bad_edge
  refusal-readable r = rw (r.sized, r.mark, r.grid, r.crowd, r.directory, r.rows, first_number)

  -- what is known of the number of a sheet on the way through the tests, for the functions that name this set
  pub ruleset of_refusal = (refusal-length, refusal-readable)

  pub refusal-none : Clear (sheet_conditions s) 10 → refusal s ≡ 0
  unfolding refusal
  refusal-none c = first_number-none (sheet_conditions s) c

  -- the condition of each number
  well_formed-clear : WellFormed s → (x : ℕ) → condition_of x (sheet_conditions s) ≡ false
  unfolding refusal
  well_formed-clear w = first_number-clear (sheet_conditions s) refl w

  pub well_formed-readable : WellFormed s → Readable s
  well_formed-readable w = record {
    sized = well_formed-clear w length_no;
    mark = well_formed-clear w mark_no;
    grid = well_formed-clear w chip_no;
    crowd = well_formed-clear w crowd_no;
    directory = well_formed-clear w directory_no;
    rows = well_formed-clear w parameter_no;
  }

  well_formed-test : WellFormed s → (test : Test) → bad_net test s ≡ false
  well_formed-test w Channels = bad_net-channels s ∙ well_formed-clear w channel_no
  well_formed-test w Repeats = bad_net-repeats s ∙ well_formed-clear w twice_no
  well_formed-test w Edges = bad_net-edges s ∙ well_formed-clear w joint_no

  -- the net of each record passes each test, and no two have one number
  pub well_formed-passes : WellFormed s → (test : Test) (k : ℕ) → k < net_count s → passes (grid_of s) test (net_at s k) ≡ true
  unfolding bad_net
  well_formed-passes w test = every-at (net_count s) (λ k. passes (grid_of s) test (net_at s k)) (not-false _ (well_formed-test w test))

  pub well_formed-names : WellFormed s → (i j : ℕ) → i < net_count s → j < net_count s → (net_at s i).number ≡ (net_at s j).number → i ≡ j
  unfolding duplicate_net
  well_formed-names w = differ-once (net_count s) (λ k. (net_at s k).number) (not-false _ (well_formed-clear w name_no))
