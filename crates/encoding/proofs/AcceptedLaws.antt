-- Which netlist files made of nets are accepted (specs/Encoding.antt). Assumes nothing.
-- Listable: nets that pass the tests of a sheet. start_at-most, sheet_length-le: how long a file of such nets is at most.
-- encode-mark and the like: that one of the numbers 1 to 9 and 18 does not apply; encode-accepted: a file of such nets, with an allowed fabric,
-- its rows as a sheet has them, and an allowed width, is accepted. accepted-listable: the nets of an accepted sheet are such nets.
use mathlib.Core.Path.{◌≡◌, refl, sym, ap, ap₂, ◌∙◌}
use mathlib.Core.Bool.{Bool, true, false, not, ◌||◌}
use mathlib.Core.List.{List}
use Prim.Native.Nat.{ℕ, zero, suc, ◌+◌, ◌-◌, ◌*◌, ◌≤◌, ◌<◌}
use native.Mathlib.Omega.{arith}
use native.Mathlib.Numerals.{add-one}
use native.Mathlib.Decide.{ℕ_discrete}
use borrow.Author.Tests.{eq-eqb, le-ltb}
use lib.Dec.{eqb}
use lib.ListN.{length, get_or, replicate}
use Rattle.numbers.proofs.NumbersLaws.{clear_none, clear-more}
use Rattle.bounded.specs.Bounded.{every}
use Rattle.bounded.proofs.BoundedLaws.{true-both, left-true, right-true, at_every, once-differ}
use Rattle.grid.specs.declared.Grid.{Grid}
use Rattle.switchbox.specs.declared.Fabric.{Fabric}
use Rattle.grid.specs.Grid.{min_side, max_side}
use Rattle.switchbox.specs.SwitchBox.{rows_kind, max_kind, max_width, rows_length, rows_size, rows_allowed}
use Rattle.switchbox.specs.Generator.{rows_of_kind}
use Rattle.switchbox.specs.Facts.{Allowed}
use Rattle.switchbox.proofs.RowLaws.{rows_size-le, own-rows}
use Rattle.net.specs.Net.{Net, Mark, short, long, max_entries, u16_at, count_at, record_length, size, channels_known, channels_differ, parents_right}
use Rattle.net.specs.Facts.{passes}
use Rattle.net.specs.declared.Test.TheVariants.{Channels, Repeats, Edges}
use Rattle.net.specs.Nets.{no_net, net_in}
use Rattle.net.proofs.NetLaws.{number_size-le, net_of-size}
use Rattle.netlist.specs.declared.Trailer.{Trailer}
use Rattle.netlist.specs.Netlist.{max_nets, trailer_length, max_sheet, mark_byte, number_size_of, grid_of, kind_of, width_of, net_count, record_bytes, net_at, nets}
use Rattle.netlist.specs.Netlist.{bad_length, bad_mark, bad_grid, too_many_nets, bad_rows, unknown_channel, repeated_channel, bad_edge, duplicate_net, sheet_conditions, WellFormed}
use Rattle.netlist.specs.Facts.{Readable}
use Rattle.netlist.proofs.NetlistLaws.{true-within, size_at, RecordFits, Directory, good-directory, refusal-none}
use Rattle.netlist.proofs.NetlistLaws.{readable-nets, record-whole, nets-length, nets-at, well_formed-readable, well_formed-passes, well_formed-names}
use Rattle.encoding.specs.Encoding.{u16_bytes, start_at, sheet_length, trailer_bytes, encode, Rowed}
use Rattle.encoding.proofs.EncodingLaws.{start_at-none, start_at-more, start_at-le, encode-length, trailer-byte, trailer-u16, trailer-length, encode-trailer}
use Rattle.encoding.proofs.EncodingLaws.{encode-last, encode-number_size, encode-kind, encode-rows, encode-count, encode-directory, encode-start, encode-size, encode-net_at}

-- ---- Listable

-- nets that pass the tests of a sheet with the grid g
pub record Listable (g : Grid) (ns : List Net) : Type 0 where
  pub few : length ns ≤ max_nets
  pub filled : (k : ℕ) → k < length ns → 1 ≤ size (net_in ns k)
  pub short : (k : ℕ) → k < length ns → size (net_in ns k) ≤ max_entries
  pub known : (k : ℕ) → k < length ns → channels_known g (net_in ns k) ≡ true
  pub differing : (k : ℕ) → k < length ns → channels_differ (net_in ns k) ≡ true
  pub rooted : (k : ℕ) → k < length ns → parents_right g (net_in ns k) ≡ true
  pub named : (k l : ℕ) → k < length ns → l < length ns → (net_in ns k).number ≡ (net_in ns l).number → k ≡ l

-- ---- the rows

no_rows : rows_allowed (replicate rows_length 0) ≡ true
unfolding rows_allowed
no_rows = refl

-- rows as a sheet has them are in range: those of kind 3 are the kind's, and for the others zeros stand
rowed-allowed : {f : Fabric} → Rowed f → Allowed f → rows_allowed f.rows ≡ true
rowed-allowed {f} r a = at (ℕ_discrete f.kind rows_kind)
  where
    at : Dec (f.kind ≡ rows_kind) → rows_allowed f.rows ≡ true
    at (yes e) = ap rows_allowed (sym (ap (λ (k : ℕ). rows_of_kind k f.rows) e ∙ own-rows f.rows)) ∙ a.rows.1
    at (no n) = ap rows_allowed (r.none n) ∙ no_rows

-- ---- the length

-- k records of no more than 32 entries, with net numbers of 4 bytes at most
start_at-most : (mark : Mark) (ns : List Net) (k : ℕ) → ((i : ℕ) → i < k → size (net_in ns i) ≤ max_entries) → start_at mark ns k ≤ record_length 4 max_entries * k
start_at-most mark ns zero h = omega (arith, start_at-none mark ns)
start_at-most mark ns (suc k) h =
    let r = start_at-most mark ns k (λ i l. h i (omega arith)) in
    omega (arith, ap (start_at mark ns) (add-one k), start_at-more mark ns k, h k (omega arith), number_size-le mark)

pub sheet_length-le : (mark : Mark) (f : Fabric) (ns : List Net) → Listable f.grid ns → sheet_length mark f ns ≤ max_sheet
sheet_length-le mark f ns l = omega (arith, start_at-most mark ns (length ns) l.short, l.few, rows_size-le f.kind)

-- ---- encode: none of the numbers 1 to 9 and 18 applies

second-known : (mark : Mark) (x : ℕ) → x ≡ mark_byte mark → (eqb x (mark_byte short) || eqb x (mark_byte long)) ≡ true
second-known short x e = left-true _ (eqb x (mark_byte long)) (eq-eqb _ _ e)
second-known long x e = right-true (eqb x (mark_byte short)) _ (eq-eqb _ _ e)

module _ (mark : Mark) (f : Fabric) (w : ℕ) (ns : List Net) (r : Rowed f) where
  -- 2 mark
  encode-mark : bad_mark (encode mark f w ns) ≡ false
  unfolding bad_mark trailer_bytes u16_bytes
  encode-mark =
      let s : List ℕ = encode mark f w ns in
      let long = encode-length mark f w ns r.sized in
      let first : length s - 2 ≡ length s - trailer_length + 10 = omega arith in
      let field : length s - 4 ≡ length s - trailer_length + 8 = omega arith in
      ap not
      (true-both _ _
      (true-both _ _
      (eq-eqb _ _ (ap (λ (j : ℕ). get_or s j 0) first ∙ trailer-byte mark f w ns 10))
      (second-known mark _ (encode-last mark f w ns)))
      (eq-eqb _ _ (ap (u16_at s) field ∙ trailer-u16 mark f w ns 8 ∙ trailer-length mark f w ns ∙ sym long)))

  -- 3 chip
  encode-grid : Allowed f → 1 ≤ w → w ≤ max_width → bad_grid (encode mark f w ns) ≡ false
  unfolding bad_grid
  encode-grid a l h =
      let s : List ℕ = encode mark f w ns in
      let cols = ap (λ (t : Trailer). t.grid.cols) (encode-trailer mark f w ns) in
      let rows = ap (λ (t : Trailer). t.grid.rows) (encode-trailer mark f w ns) in
      let kind = encode-kind mark f w ns in
      let width = ap (λ (t : Trailer). t.width) (encode-trailer mark f w ns) in
      ap not
      (true-both _ _
      (true-both _ _
      (true-both _ _
      (true-within min_side max_side (grid_of s).cols (omega arith) (omega arith))
      (true-within min_side max_side (grid_of s).rows (omega arith) (omega arith)))
      (true-within 0 max_kind (kind_of s) (omega arith) (omega arith)))
      (true-within 1 max_width (width_of s) (omega arith) (omega arith)))

  -- 18 parameter
  encode-in_range : Allowed f → bad_rows (encode mark f w ns) ≡ false
  unfolding bad_rows
  encode-in_range a = ap not (ap rows_allowed (encode-rows mark f w ns r) ∙ rowed-allowed r a)

  encode-grid_of : grid_of (encode mark f w ns) ≡ f.grid
  encode-grid_of = ap (λ (t : Trailer). t.grid) (encode-trailer mark f w ns)

  module _ (l : Listable f.grid ns) where
    -- 1 length
    encode-sized : bad_length (encode mark f w ns) ≡ false
    unfolding bad_length
    encode-sized =
        let e = encode-length mark f w ns r.sized in
        ap not (true-within trailer_length max_sheet (length (encode mark f w ns)) (omega arith) (omega (arith, sheet_length-le mark f ns l)))

    -- 4 crowd
    encode-few : too_many_nets (encode mark f w ns) ≡ false
    unfolding too_many_nets
    encode-few = le-ltb max_nets (net_count (encode mark f w ns)) (omega (arith, encode-count mark f w ns, l.few))

    fits : (k : ℕ) → k < length ns → RecordFits (encode mark f w ns) k
    fits k h =
        let start = encode-start mark f w ns k (omega arith) in
        let next = encode-start mark f w ns (k + 1) (omega arith) in
        let count : size_at (encode mark f w ns) k ≡ size (net_in ns k) = ap₂ (λ (z o : ℕ). count_at z (encode mark f w ns) o) (encode-number_size mark f w ns) start ∙ encode-size mark f w ns k h in
        let more = start_at-more mark ns k in
        let z = encode-number_size mark f w ns in
        record {
          filled = omega (arith, l.filled k h);
          short = omega (arith, l.short k h);
          next = omega arith;
          before = omega (arith, start_at-le mark ns (length ns) k h, encode-directory mark f w ns);
        }

    -- 5 directory
    encode-fits : Directory (encode mark f w ns)
    encode-fits =
        let count = encode-count mark f w ns in
        record {
          sum = omega (arith, encode-directory mark f w ns, ap rows_size (encode-kind mark f w ns), encode-length mark f w ns r.sized);
          first = encode-start mark f w ns 0 (omega arith) ∙ start_at-none mark ns;
          fits = λ k h. fits k (omega arith);
        }

    -- 6 channel, 7 twice, 8 joint: a test of one net that all nets pass
    pass : (test : Grid → Net → Bool) → ((k : ℕ) → k < length ns → test f.grid (net_in ns k) ≡ true)
        → not (every (net_count (encode mark f w ns)) (λ k. test (grid_of (encode mark f w ns)) (net_at (encode mark f w ns) k))) ≡ false
    pass test h =
        ap not
        (at_every (net_count (encode mark f w ns)) (λ k. test (grid_of (encode mark f w ns)) (net_at (encode mark f w ns) k))
        (λ k p. let q : k < length ns = omega (arith, encode-count mark f w ns) in ap₂ test encode-grid_of (encode-net_at mark f w ns k q) ∙ h k q))

    -- 9 name
    encode-names : duplicate_net (encode mark f w ns) ≡ false
    unfolding duplicate_net
    encode-names =
        ap not
        (once-differ (net_count (encode mark f w ns)) (λ k. (net_at (encode mark f w ns) k).number)
        (λ i j p q e.
        let a : i < length ns = omega (arith, encode-count mark f w ns) in
        let b : j < length ns = omega (arith, encode-count mark f w ns) in
        l.named i j a b (sym (ap (λ (n : Net). n.number) (encode-net_at mark f w ns i a)) ∙ e ∙ ap (λ (n : Net). n.number) (encode-net_at mark f w ns j b))))

  pub encode-accepted : Allowed f → 1 ≤ w → w ≤ max_width → Listable f.grid ns → WellFormed (encode mark f w ns)
  unfolding unknown_channel repeated_channel bad_edge
  encode-accepted a low high l =
      refusal-none (encode mark f w ns)
      (clear-more table 9
      (clear-more table 8
      (clear-more table 7
      (clear-more table 6
      (clear-more table 5
      (clear-more table 4
      (clear-more table 3
      (clear-more table 2
      (clear-more table 1
      (clear-more table 0 (clear_none table) (encode-sized l))
      encode-mark)
      (encode-grid a low high))
      (encode-few l))
      (good-directory (encode-fits l)))
      (encode-in_range a))
      (pass l channels_known l.known))
      (pass l (λ g n. channels_differ n) l.differing))
      (pass l parents_right l.rooted))
      (encode-names l))
    where
      table : List (ℕ × Bool)
      table = sheet_conditions (encode mark f w ns)

-- ---- the nets of an accepted sheet

module _ (s : List ℕ) (a : WellFormed s) where
  readable : Readable s
  readable = well_formed-readable s a

  -- a net of the list, which the sheet has at the same index
  own : (k : ℕ) → k < length (nets s) → (k < net_count s) × (net_at s k ≡ net_in (nets s) k)
  own k h = let l : k < net_count s = omega (arith, nets-length s) in (l, sym (nets-at s k no_net l))

  sizes : (k : ℕ) → k < length (nets s) → (1 ≤ size (net_in (nets s) k)) × (size (net_in (nets s) k) ≤ max_entries)
  sizes k h =
      let o = own k h in
      let r = record-whole readable k o.0 in
      let n = net_of-size (number_size_of s) (record_bytes s k) in
      let e = ap size o.1 in
      (omega arith, omega arith)

  pub accepted-listable : Listable (grid_of s) (nets s)
  unfolding passes duplicate_net
  accepted-listable = record {
    few = omega (arith, nets-length s, readable-nets readable);
    filled = λ k h. (sizes k h).0;
    short = λ k h. (sizes k h).1;
    known = λ k h. let o = own k h in ap (channels_known (grid_of s)) (sym o.1) ∙ well_formed-passes s a Channels k o.0;
    differing = λ k h. let o = own k h in ap channels_differ (sym o.1) ∙ well_formed-passes s a Repeats k o.0;
    rooted = λ k h. let o = own k h in ap (parents_right (grid_of s)) (sym o.1) ∙ well_formed-passes s a Edges k o.0;
    named = λ k l h m e.
        let o = own k h in
        let p = own l m in
        well_formed-names s a k l o.0 p.0
        (ap (λ (n : Net). n.number) o.1 ∙ e ∙ sym (ap (λ (n : Net). n.number) p.1));
  }
