-- `standard::Tree::mark_from` meets its contract: the loop's invariant is that the marks of the entries before i know of entry j. Assumes nothing.
use mathlib.Core.Path.{◌≡◌, sym, ◌∙◌}
use mathlib.Core.Logic.{◌⊎◌, inl, inr, ⊎_elim}
use mathlib.Core.Bool.{true≢false}
use Prim.Native.Nat.{◌≤◌, ◌<◌}
use native.Mathlib.Omega.{arith}
use borrow.Author.Tests.{eqb-true, eqb-false, eq-eqb}
use Rattle.net.specs.Net.{max_entries, size, parent}
use Rattle.net.specs.Read.{net_read}
use Rattle.canonical.specs.Facts.{written_of}
use Rattle.standard.proofs.MarkLaws.{marked_next, marked_to-all, marked_to-own, marked_to-kept, marked_to-new, marked_to-far}
use Rattle.standard.proofs.Tree.mark_from.Goals as goal
use Rattle.standard.proofs.Tree.mark_from.Goals.{then-i-j, else-i-j+then-marks-i-eq-NO_PARENT+then-parent-j, then-i-p, else-i-p, else-i-j+else-marks-i-eq-NO_PARENT, else-marks-i-eq-NO_PARENT-via-then-marks-i-eq-NO_PARENT+else-parent-j, else-marks-i-eq-NO_PARENT-via-else-marks-i-eq-NO_PARENT}

pub loop-i-preserved : goal.loop-i-preserved
loop-i-preserved c =
    let l = c.loop-i in
    let a = c.args in
    let p = c.requires in
    let n = net_read a.self.record in
    let T = a.self.tree in
    let o : size n ≤ max_entries = omega arith in
    let h : l.i < size n = omega arith in
    let j = p.0.within in
    let m = c.parent-p.ensures.0 in
    let M = l.invariant in
    elim c.if-i-j.branch [
      | then-i-j w ↦ rw w.marks-is (marked_to-own n T o a.k p.1 a.j j l.i h l.marks M w.if-i-j.true)
      | else-i-j+then-marks-i-eq-NO_PARENT+then-parent-j w ↦
          let t : (l.i ≡ parent n a.j) ⊎ (parent n l.i ≡ a.j) =
          elim w.if-i-p.branch [
            | then-i-p v ↦ inl (v.if-i-p.true ∙ m)
            | else-i-p v ↦ inr (sym v.parent.ensures.0 ∙ eqb-true _ _ (sym v.value-is ∙ w.if-parent-j.true))
          ] in
          rw w.marks-is
          (marked_to-new n T o a.k p.1 a.j j l.i h l.marks M w.if-i-j.false w.if-marks-i-eq-NO_PARENT.true t)
      | else-i-j+else-marks-i-eq-NO_PARENT w ↦
          let e = w.else-marks-i-eq-NO_PARENT in
          rw w.marks-is (
          elim e.branch [
            | else-marks-i-eq-NO_PARENT-via-then-marks-i-eq-NO_PARENT+else-parent-j v ↦
                marked_to-far n T o a.k p.1 a.j j l.i h l.marks M w.if-i-j.false v.if-marks-i-eq-NO_PARENT.true (λ t.
                elim v.if-i-p.branch [
                  | then-i-p u ↦ true≢false (sym (u.value-is ∙ eq-eqb _ _ u.if-i-p.true) ∙ v.if-parent-j.false)
                  | else-i-p u ↦
                      ⊎_elim (λ q. u.if-i-p.false (q ∙ sym m))
                      (λ q. eqb-false _ _ (sym u.value-is ∙ v.if-parent-j.false) (u.parent.ensures.0 ∙ q)) t
                ])
            | else-marks-i-eq-NO_PARENT-via-else-marks-i-eq-NO_PARENT v ↦
                marked_to-kept n T o a.k p.1 a.j j l.i h l.marks M w.if-i-j.false v.if-marks-i-eq-NO_PARENT.false
          ]
          )
    ]

pub returns : goal.returns
returns c =
    let l = c.loop-i in
    let a = c.args in
    let p = c.requires in
    let n = net_read a.self.record in
    marked_next n a.k a.j l.marks p.0 (marked_to-all n (written_of n a.k) a.j l.i l.marks (omega arith) l.invariant)
