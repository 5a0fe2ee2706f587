-- A pass over the nets of an accepted sheet in rising net number, each written in canonical form. Assumes nothing.
-- count_kept, directory-kept: the nets in canonical form are as many as the sheet's, and their records end where the sheet's do.
-- form-bytes: what the canonical form is made of. tree-record: a record's entries are a tree. Turn, Pass: what a pass of a loop over the nets has.
use mathlib.Core.Path.{◌≡◌, refl, sym, subst, ap, ap₂, ◌∙◌}
use Prim.Native.Nat.{ℕ, ◌+◌, ◌*◌, ◌≤◌, ◌<◌}
use native.Mathlib.Omega.{arith}
use mathlib.Core.List.{List, ◌++◌}
use lib.ListN.{length, get_or, drop}
use Rattle.net.specs.Net.{Net, number_size, record_length, net_of, size}
use Rattle.net.specs.Facts.{WholeRecord}
use Rattle.net.specs.Nets.{net_in, In}
use Rattle.net.proofs.NetLaws.{net_of-size}
use Rattle.net.proofs.NetsLaws.{place_in}
use Rattle.netlist.specs.declared.Trailer.{Trailer}
use Rattle.netlist.specs.declared.Sheet.{Sheet}
use Rattle.netlist.specs.Netlist.{max_nets, max_sheet, WellFormed, mark_of, number_size_of, fabric_of, width_of, net_count, directory_of, record_bytes, net_at, nets}
use Rattle.netlist.proofs.NetlistLaws.{trailer-size, well_formed-readable, readable-length, readable-directory, readable-trailer, readable-below, rows-length, record-whole, nets-length, net_in-nets}
use Rattle.rank.specs.Rank.{rising}
use Rattle.rank.specs.Facts.{Ordered}
use Rattle.rank.proofs.OrderLaws.{rising-length}
use Rattle.rank.proofs.RankLaws.{ordered-record}
use Rattle.encoding.specs.Encoding.{record_from, records_to, start_at, offsets_to, encode}
use Rattle.encoding.proofs.EncodingLaws.{start_at-more, start_at-le, encode-length}
use Rattle.encoding.proofs.SheetLaws.{size-marked, trailer-kept}
use Rattle.encoding.proofs.OwnLaws.{record-bytes-lt}
use Rattle.canonical.specs.Canonical.{canonical_net, canonical_nets, canonical_form}
use Rattle.canonical.specs.Standard.{Bytes}
use Rattle.canonical.proofs.CanonicalLaws.{canonical-size}
use Rattle.canonical.proofs.NetsLaws.{net_in-map, accepted, low, root, canonical_nets-length}
use Rattle.canonical.proofs.FormLaws.{form-length}
use Rattle.standard.specs.Growth.{IsTree, record_in_form}
use Rattle.standard.proofs.GrowthLaws.{record-bytes}

pub count_kept : (s : List ℕ) → length (canonical_nets s) ≡ net_count s
count_kept s = canonical_nets-length s ∙ nets-length s

module _ (s : List ℕ) (A : WellFormed s) where
  pub directory-kept : start_at (mark_of s) (canonical_nets s) (length (canonical_nets s)) ≡ directory_of s
  unfolding canonical_form
  directory-kept =
      let r = well_formed-readable s A in
      omega (
        arith,
        form-length s A,
        encode-length (mark_of s) (fabric_of s) (width_of s) (canonical_nets s) (rows-length r),
        count_kept s,
        readable-directory r,
      )

  -- the records u, the offsets v and the kept rows and trailer w, one behind the other
  pub form-bytes : Bytes s → (k : ℕ) → k ≡ net_count s → (u v w : List ℕ) → u ≡ records_to (mark_of s) (canonical_nets s) k
      → v ≡ offsets_to (mark_of s) (canonical_nets s) k → w ≡ drop (directory_of s + 2 * net_count s) s → u ++ (v ++ w) ≡ canonical_form s
  unfolding canonical_form encode
  form-bytes bytes k e u v w eu ev ew =
      let ns = canonical_nets s in
      let m : k ≡ length ns = e ∙ sym (count_kept s) in
      ap₂ (λ (a b : List ℕ). a ++ (b ++ w)) (eu ∙ ap (records_to (mark_of s) ns) m) (ev ∙ ap (offsets_to (mark_of s) ns) m)
      ∙ ap (λ (b : List ℕ). records_to (mark_of s) ns (length ns) ++ (offsets_to (mark_of s) ns (length ns) ++ b))
      (ew ∙ trailer-kept s (well_formed-readable s A) bytes ns (count_kept s) directory-kept)

  tree-record : (j : ℕ) → j < net_count s → IsTree (net_at s j)
  tree-record j h =
      let i = subst (λ (n : Net). In n (nets s)) (net_in-nets s j h) (place_in (nets s) j (omega (arith, nets-length s))) in
      let a = accepted s A (net_at s j) i in
      record {
        accepted = record { filled = a.filled; earlier = a.earlier; meets = λ i z h. refl; once = a.once };
        first = root s A (net_at s j) i;
        low = low s A (net_at s j) i;
      }

-- ---- Pass

-- the turn of a loop over the nets: k is one of their places, and so is what the table has for it
pub record Turn (s : List ℕ) (trailer : Trailer) (order : List ℕ) (k : ℕ) : Type 0 where
  pub below : k < net_count s
  pub few : k < max_nets
  pub listed : get_or order k 0 < trailer.nets

pub turn : (sheet : Sheet) (order : List ℕ) (k : ℕ) → Ordered sheet.netlist.bytes.now order → k < sheet.netlist.trailer.nets
    → Turn sheet.netlist.bytes.now sheet.netlist.trailer order k
turn sheet order k o h =
    let s = sheet.netlist.bytes.now in
    let W = sheet.netlist.readable in
    let t = readable-trailer W sheet.netlist.trailer sheet.netlist.own in
    let b = readable-below W sheet.netlist.trailer sheet.netlist.own k h in
    let m = (ordered-record s order o k b.0).0 in
    record { below = b.0; few = b.1; listed = omega arith }

-- a pass of a loop over the nets: the k-th net of the accepted sheet s in rising net number has the record r, and in canonical form one that
-- starts at `at`
pub record Pass (s order : List ℕ) (k at z : ℕ) (r : List ℕ) : Type 0 where
  pub accepted : WellFormed s
  pub ordered : Ordered s order
  pub below : k < net_count s
  pub start : at ≡ start_at (mark_of s) (canonical_nets s) k
  pub size : z ≡ number_size_of s
  pub bytes : r ≡ record_bytes s (get_or order k 0)

-- the pass of a loop at the place k
pub pass_here : (sheet : Sheet) {order : List ℕ} {k at z : ℕ} {r : List ℕ} → Ordered sheet.netlist.bytes.now order → k < sheet.netlist.trailer.nets
    → at ≡ start_at (mark_of sheet.netlist.bytes.now) (canonical_nets sheet.netlist.bytes.now) k
    → (r ≡ record_bytes sheet.netlist.bytes.now (get_or order k 0)) × (z ≡ sheet.netlist.trailer.numbersize)
    → Pass sheet.netlist.bytes.now order k at z r
pass_here sheet {order = order} {k = k} o h a r =
    let s = sheet.netlist.bytes.now in
    record {
      accepted = sheet.accepted;
      ordered = o;
      below = (turn sheet order k o h).below;
      start = a;
      size = r.1 ∙ (trailer-size s sheet.netlist.trailer sheet.netlist.own).0;
      bytes = r.0;
    }

module _ {s order : List ℕ} {k at z : ℕ} {r : List ℕ} (u : Pass s order k at z r) where
  pass-listed : get_or order k 0 < net_count s
  pass-listed = (ordered-record s order u.ordered k u.below).0

  pub pass-whole : WholeRecord z r
  pass-whole = rw (u.size, u.bytes) (record-whole (well_formed-readable s u.accepted) (get_or order k 0) pass-listed)

  pub pass-tree : IsTree (net_of z r)
  pass-tree = rw (u.size, u.bytes) (tree-record s u.accepted (get_or order k 0) pass-listed)

  pub pass-net : canonical_net (net_of z r) ≡ net_in (canonical_nets s) k
  pass-net =
      ap₂ (λ (y : ℕ) (b : List ℕ). canonical_net (net_of y b)) u.size u.bytes
      ∙ ap canonical_net (ordered-record s order u.ordered k u.below).1
      ∙ sym (net_in-map canonical_net (rising (nets s)) k (omega (arith, rising-length (nets s), nets-length s, u.below)))

  -- both records are as long
  pub pass-length : length r ≡ record_length z (size (net_in (canonical_nets s) k))
  pass-length = pass-whole.whole ∙ ap (record_length z) (sym (net_of-size z r) ∙ sym (canonical-size (net_of z r)) ∙ ap size pass-net)

  -- by the sheet's mark
  pub pass-marked : length r ≡ record_length (number_size (mark_of s)) (size (net_in (canonical_nets s) k))
  pass-marked = pass-length ∙ ap (λ (y : ℕ). record_length y (size (net_in (canonical_nets s) k))) (u.size ∙ size-marked s)

  -- what is written of it, where the sheet is a list of bytes
  pub pass-written : Bytes s → record_in_form z r ≡ record_from (mark_of s) (net_in (canonical_nets s) k)
  pass-written bytes =
      let e = u.size ∙ size-marked s in
      let own : Bytes r = subst Bytes (sym u.bytes) (record-bytes-lt s bytes (get_or order k 0)) in
      ap (λ (y : ℕ). record_in_form y r) e
      ∙ record-bytes (mark_of s) r (subst (λ (y : ℕ). WholeRecord y r) e pass-whole) own
      ∙ ap (λ (y : ℕ). record_from (mark_of s) (canonical_net (net_of y r))) (sym e)
      ∙ ap (record_from (mark_of s)) pass-net

  -- the next one starts where it ends
  pub pass-next : at + length r ≡ start_at (mark_of s) (canonical_nets s) (k + 1)
  pass-next = omega (arith, pass-length, start_at-more (mark_of s) (canonical_nets s) k, u.start, u.size, size-marked s)

  -- it ends before the directory
  pub pass-end-le : (at + length r ≤ directory_of s) × (directory_of s ≤ max_sheet)
  pass-end-le =
      let W = well_formed-readable s u.accepted in
      let e = directory-kept s u.accepted in
      let l = start_at-le (mark_of s) (canonical_nets s) (length (canonical_nets s)) k (omega (arith, count_kept s, u.below)) in
      (omega (arith, pass-length, u.start, u.size, size-marked s), omega (arith, readable-directory W, readable-length W))
