-- `standard::Tree::write_entries` meets its contract: the loop's invariant is that the first k entries in canonical form are written, and the marks
-- are those of their channels. Assumes nothing.
use mathlib.Core.Path.{◌≡◌, sym, ap, ◌∙◌}
use mathlib.Core.List.{List, ◌++◌}
use Prim.Native.Nat.{ℕ, ◌+◌, ◌*◌, ◌<◌}
use native.Mathlib.Omega.{arith}
use lib.ListN.{length, get_or}
use Rattle.bounded.specs.Bounded.{joined}
use Rattle.bounded.proofs.BoundedLaws.{joined-none, joined-more}
use Rattle.net.specs.Net.{size, has, edge}
use Rattle.encoding.specs.Encoding.{entry_bytes}
use Rattle.encoding.proofs.RecordLaws.{entry_bytes-length}
use Rattle.routing.proofs.OverwriteLaws.{parts_none, parts_more, overwrite-all}
use Rattle.canonical.specs.Canonical.{canonical_net}
use Rattle.canonical.proofs.WrittenLaws.{written-length}
use Rattle.canonical.specs.Facts.{written_of}
use Rattle.net.specs.Read.{net_read}
use Rattle.standard.proofs.PartLaws.{part_length}
use Rattle.standard.proofs.MarkLaws.{entry_mark-le, marked-none}
use Rattle.standard.proofs.GrowthLaws.{next-bytes}
use Rattle.standard.proofs.Tree.write_entries.Goals as goal

pub loop-k-init : goal.loop-k-init
loop-k-init c = record { marked = marked-none _ (omega arith); written = parts_none (joined-none _) }

pub put_pair-requires : goal.put_pair-requires
put_pair-requires c =
    let n = net_read c.args.self.record in
    let l = c.loop-k in
    let j = c.next_entry-j in (
      part_length l.part (4 * l.k) 4 (omega (arith, l.invariant.written.kept, c.requires)),
      c.channel.ensures.1,
      omega (
        arith,
        l.invariant.marked.each j.result j.ensures.within,
        entry_mark-le n (written_of n l.k) (omega (arith, written-length (has n) (edge n) l.k)) j.result,
      ),
    )

pub loop-k-preserved : goal.loop-k-preserved
loop-k-preserved c =
    let n = net_read c.args.self.record in
    let l = c.loop-k in
    let k = l.k in
    let h : k < size n = omega arith in
    let j = c.next_entry-j.result in
    let N = c.next_entry-j.ensures in
    let x = c.channel in
    let v =
    c.put_pair.ensures
    ∙ next-bytes n c.args.self.tree k h j x.result (get_or l.marks j 0) N x.ensures.0 (l.invariant.marked.each j N.within) in
    let e : 4 * (k + 1) ≡ 4 * k + 4 = omega arith in
    record {
      marked = c.mark_from.ensures;
      written =
          rw e
          (parts_more _ (4 * k + 4) l.invariant.written
          (joined-more k (entry_bytes (canonical_net n)) ∙ ap (λ (w : List ℕ). joined k (entry_bytes (canonical_net n)) ++ w) (sym v))
          (ap length v ∙ entry_bytes-length (canonical_net n) k ∙ omega arith)
          (omega arith)
          (omega (arith, c.requires)));
    }

pub returns : goal.returns
returns c =
    let l = c.loop-k in
    let a = c.args in
    let f = entry_bytes (canonical_net (net_read a.self.record)) in
    let e : l.k ≡ size (net_read a.self.record) = omega arith in
    l.invariant.written.bytes
    ∙ overwrite-all (joined l.k f) a.part.now (l.invariant.written.count ∙ omega (arith, c.requires))
    ∙ ap (λ (m : ℕ). joined m f) e
