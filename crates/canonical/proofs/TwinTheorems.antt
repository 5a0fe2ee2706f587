-- A sheet marked 57 48 and its twin marked 57 49 (specs/Twins.antt; 02, M-106). Assumes nothing.
-- widened-twin, widened-bytes: every accepted sheet marked 57 48 has one, of bytes; twin-only: and no other. start-later: where a record starts. twin-record, twin-past: what
-- Record gives. twin-bytes: the records' bytes. twin-form: the standard forms.
use mathlib.Core.Path.{◌≡◌, sym, subst, ap, ap₂, ◌∙◌}
use Prim.Native.Nat.{ℕ, zero, suc, ◌+◌, ◌-◌, ◌*◌, ◌%◌, ◌/◌, ◌≤◌, ◌<◌}
use native.Mathlib.Omega.{arith}
use native.Mathlib.Numerals.{add-one}
use native.Mathlib.Decide.{ℕ_discrete}
use mathlib.Core.List.{List, ◌++◌, map}
use lib.ListN.{length}
use Rattle.net.specs.Net.{Net, Mark, short, long, number_size, count_at, record_length, size, channel, parent}
use Rattle.net.proofs.NetLaws.{number_size-short, number_size-long, u16_at-lt, number_in-short, net_of-number}
use Rattle.switchbox.specs.declared.Fabric.{Fabric}
use Rattle.switchbox.specs.SwitchBox.{rows_kind, rows_length}
use Rattle.netlist.specs.declared.Part.{Part}
use Rattle.netlist.specs.Netlist.{WellFormed, trailer_length, mark_of, trailer_of, kind_of, rows_of, fabric_of, width_of, number_size_of, net_count, offset_of, record_part, record_bytes, part_bytes, nets}
use Rattle.netlist.proofs.NetlistLaws.{rows_of-own, rows_of-none, as-in-01, well_formed-readable, readable-allowed, readable-width, start_of-below, nets-length, net_in-nets}
use Rattle.reader.specs.Read.{part_of, record_of}
use Rattle.reader.proofs.ReadLaws.{part_of-past, part_of-record}
use Rattle.bounded.specs.Bounded.{joined}
use Rattle.net.specs.Nets.{net_in}
use Rattle.rank.specs.Rank.{rising}
use Rattle.encoding.specs.Encoding.{u16_bytes, number_bytes, head_bytes, entry_bytes, record_from, encode, start_at}
use Rattle.encoding.proofs.EncodingLaws.{start_at-none, start_at-more, encode-read}
use Rattle.encoding.proofs.SheetLaws.{size-marked, size-read, directory-start_at, fabric-rowed}
use Rattle.encoding.proofs.AcceptedLaws.{sheet_length-le, encode-accepted, accepted-listable}
use Rattle.encoding.proofs.BytesLaws.{zero-bytes, encode-bytes}
use Rattle.encoding.proofs.OwnLaws.{part_bytes_lem, record-bytes-lt, record-own, encode-own}
use Rattle.canonical.specs.Canonical.{canonical_net, canonical_nets, canonical_form}
use Rattle.canonical.specs.Standard.{Bytes}
use Rattle.canonical.specs.Twins.{Twin, widened, widened_record, LaterPart}
use Rattle.canonical.proofs.FormLaws.{form-read}

-- ---- the twin

module _ (s : List ℕ) (A : WellFormed s) where
  pub widened-twin : mark_of s ≡ short → Twin s (widened s)
  unfolding widened
  widened-twin m =
      let r = well_formed-readable s A in
      let e = encode-read long (fabric_of s) (width_of s) (nets s) (fabric-rowed r) in
      record {
        first = m;
        second = e.marked;
        same = record {
          accepted = A;
          accepted2 = encode-accepted long (fabric_of s) (width_of s) (nets s) (fabric-rowed r) (readable-allowed r) (readable-width r).0 (readable-width r).1 (accepted-listable s A);
          fabric = sym e.fabric;
          width = sym e.width;
          listed = sym e.listed;
        };
      }

-- what is encoded of the fabric, the width and the nets
encode_same : (mark : Mark) (s t : List ℕ) → fabric_of s ≡ fabric_of t → width_of s ≡ width_of t → (ns ms : List Net) → ns ≡ ms
    → encode mark (fabric_of s) (width_of s) ns ≡ encode mark (fabric_of t) (width_of t) ms
encode_same mark s t f w ns ms e =
    ap (λ (x : Fabric). encode mark x (width_of s) ns) f ∙ ap₂ (encode mark (fabric_of t)) w e

pub twin-only : (s t : List ℕ) → Twin s t → Bytes t → t ≡ widened s
unfolding widened
twin-only s t T b =
    let S = T.same in
    sym (encode-own t (well_formed-readable t S.accepted2) b)
    ∙ ap (λ (mark : Mark). encode mark (fabric_of t) (width_of t) (nets t)) T.second
    ∙ sym (encode_same long s t S.fabric S.width (nets s) (nets t) S.listed)

-- ---- Record

-- a record behind k others starts 2·k bytes later
start-later : (ns : List Net) (k : ℕ) → start_at long ns k ≡ start_at short ns k + 2 * k
start-later ns zero = omega (arith, start_at-none long ns, start_at-none short ns)
start-later ns (suc k) =
    let e = start-later ns k in
    let z = number_size-short in
    let y = number_size-long in
    omega (arith, start_at-more long ns k, start_at-more short ns k, ap (start_at long ns) (add-one k), ap (start_at short ns) (add-one k))

-- the part of a record, by the mark and the nets
part-marked : (s : List ℕ) → WellFormed s → (k : ℕ) → k < net_count s
    → part_of s k ≡ record { offset = start_at (mark_of s) (nets s) k; len = record_length (number_size (mark_of s)) (size (net_in (nets s) k)) }
unfolding record_part
part-marked s A k h =
    let r = well_formed-readable s A in
    let o = sym (start_of-below s k h) ∙ directory-start_at s r k (omega arith) in
    let n = ap (count_at (number_size_of s) s) (sym (start_of-below s k h)) ∙ sym (size-read s r k h) in
    part_of-record s k A h
    ∙ ap₂ (λ (x y : ℕ). record { offset = x; len = y }) o (ap₂ record_length (size-marked s) n)

-- the bytes of a record whose net number is a u16
widen-record : (n : Net) → n.number < 65536 → record_from long n ≡ widened_record (record_from short n)
unfolding record_from head_bytes number_bytes u16_bytes
widen-record n h =
    let low : n.number % 65536 ≡ n.number = omega arith in
    let high : n.number / 65536 ≡ 0 = omega arith in
    ap₂ (λ (x y : ℕ). ((u16_bytes x ++ u16_bytes y) ++ u16_bytes (size n)) ++ joined (size n) (entry_bytes n)) low high

record-read : (s : List ℕ) → WellFormed s → Bytes s → (k : ℕ) → k < net_count s → record_of s k ≡ record_from (mark_of s) (net_in (nets s) k)
unfolding record_of record_bytes
record-read s A b k h = ap (part_bytes s) (part_of-record s k A h) ∙ sym (record-own s (well_formed-readable s A) b k h)

-- a net number of a sheet marked 57 48
short-number : (s : List ℕ) → Bytes s → mark_of s ≡ short → (k : ℕ) → k < net_count s → (net_in (nets s) k).number < 65536
short-number s b m k h =
    let z : number_size_of s ≡ 2 = size-marked s ∙ ap number_size m ∙ number_size-short in
    let n = ap (λ (x : Net). x.number) (net_in-nets s k h) ∙ net_of-number (number_size_of s) (record_bytes s k) in
    let e = number_in-short (number_size_of s) (record_bytes s k) z in
    omega (arith, u16_at-lt (record_bytes s k) (record-bytes-lt s b k) 0)

-- the rows of a sheet of bytes
rows-bytes : (s : List ℕ) → Bytes s → Bytes (rows_of s)
rows-bytes s b = at (ℕ_discrete (kind_of s) rows_kind)
  where
    at : Dec (kind_of s ≡ rows_kind) → Bytes (rows_of s)
    at (yes e) = subst Bytes (sym (rows_of-own s e)) (part_bytes_lem s (length s - trailer_length - rows_length) rows_length b)
    at (no e) = subst Bytes (sym (rows_of-none s e)) (zero-bytes rows_length)

-- the twin of a sheet of bytes is one
pub widened-bytes : (s : List ℕ) → WellFormed s → mark_of s ≡ short → Bytes s → Bytes (widened s)
unfolding widened trailer_of
widened-bytes s A m b =
    let L = accepted-listable s A in
    encode-bytes long (fabric_of s) (width_of s) (nets s) (b _) (b _) (b _) (b _) (rows-bytes s b) (omega (arith, sheet_length-le long (fabric_of s) (nets s) L)) (λ k h.
    let l : k < net_count s = omega (arith, nets-length s) in
    let e = net_in-nets s k l in
    let r = (as-in-01 (well_formed-readable s A) k l m).rest in
    record {
      number = short-number s b m k l;
      few = omega (arith, L.short k h);
      channels = λ i q.
          let z = ap size e in
          omega (arith, ap (λ (n : Net). channel n i) e, r.channels i (omega arith), u16_at-lt s b (offset_of s k + (2 + 2 + 4 * i)));
      parents = λ i q.
          let z = ap size e in
          omega (arith, ap (λ (n : Net). parent n i) e, r.parents i (omega arith), u16_at-lt s b (offset_of s k + (2 + 4 + 4 * i)));
    })

module _ (s t : List ℕ) (T : Twin s t) where
  count_same : net_count s ≡ net_count t
  count_same = sym (nets-length s) ∙ ap length T.same.listed ∙ nets-length t

  pub twin-record : (k : ℕ) → k < net_count s → LaterPart k (part_of s k) (part_of t k)
  twin-record k h =
      let S = T.same in
      let p = part-marked s S.accepted k h ∙ ap (λ (m : Mark). record { offset = start_at m (nets s) k; len = record_length (number_size m) (size (net_in (nets s) k)) }) T.first in
      let q = part-marked t S.accepted2 k (omega (arith, count_same))
      ∙ ap₂ (λ (m : Mark) (ns : List Net). record { offset = start_at m ns k; len = record_length (number_size m) (size (net_in ns k)) }) T.second (sym S.listed) in
      let z = number_size-short in
      let y = number_size-long in
      let e = start-later (nets s) k in
      record {
        offset = omega (arith, ap (λ (x : Part). x.offset) p, ap (λ (x : Part). x.offset) q);
        len = omega (arith, ap (λ (x : Part). x.len) p, ap (λ (x : Part). x.len) q);
      }

  -- the records have the same bytes, but for the widened numbers
  pub twin-bytes : Bytes s → Bytes t → (k : ℕ) → k < net_count s → record_of t k ≡ widened_record (record_of s k)
  twin-bytes b c k h =
      let S = T.same in
      record-read t S.accepted2 c k (omega (arith, count_same))
      ∙ ap₂ (λ (m : Mark) (ns : List Net). record_from m (net_in ns k)) T.second (sym S.listed)
      ∙ widen-record (net_in (nets s) k) (short-number s b T.first k h)
      ∙ ap (λ (m : Mark). widened_record (record_from m (net_in (nets s) k))) (sym T.first)
      ∙ ap widened_record (sym (record-read s S.accepted b k h))

  -- past the last record both are empty
  pub twin-past : (k : ℕ) → net_count s ≤ k → part_of s k ≡ part_of t k
  twin-past k h = part_of-past s k T.same.accepted h ∙ sym (part_of-past t k T.same.accepted2 (omega (arith, count_same)))

  -- ---- the standard forms: they differ as the sheets do

  pub twin-form : canonical_form t ≡ widened (canonical_form s)
  unfolding canonical_form widened
  twin-form =
      let S = T.same in
      let R = form-read s S.accepted in
      ap (λ (m : Mark). encode m (fabric_of t) (width_of t) (canonical_nets t)) T.second
      ∙ encode_same long t (canonical_form s) (sym S.fabric ∙ sym R.fabric) (sym S.width ∙ sym R.width) (canonical_nets t) (nets (canonical_form s))
      (ap (λ (ns : List Net). map canonical_net (rising ns)) (sym S.listed) ∙ sym R.listed)
