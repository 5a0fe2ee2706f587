-- `standard::copy` meets its contract: the loop's invariant is that the first i bytes of the part are the first i of `from`. Assumes nothing.
use mathlib.Core.Path.{sym, ap, ◌∙◌}
use mathlib.Core.List.{List}
use Prim.Native.Nat.{ℕ, ◌<◌}
use native.Mathlib.Omega.{arith}
use native.Mathlib.Numerals.{add-one}
use lib.ListN.{length, take}
use lib.Seq.{take_all, take-suc, length-take-le}
use Rattle.routing.specs.Outcomes.{overwrite}
use Rattle.routing.proofs.OverwriteLaws.{overwrite-none, overwrite-set, overwrite-all}
use Rattle.standard.proofs.copy.Goals as goal

pub loop-i-init : goal.loop-i-init
loop-i-init c = sym (overwrite-none _)

pub loop-i-preserved : goal.loop-i-preserved
loop-i-preserved c =
    let a = c.args in
    let l = c.loop-i in
    let below : l.i < length a.from.now = omega arith in
    rw l.invariant
    (overwrite-set (take l.i a.from.now) a.part.now l.i _ (length-take-le l.i a.from.now (omega arith)) (omega arith)
    ∙ ap (λ (b : List ℕ). overwrite b a.part.now) (sym (take-suc a.from.now l.i 0 below) ∙ ap (λ (k : ℕ). take k a.from.now) (sym (add-one l.i))))

pub returns : goal.returns
returns c =
    let a = c.args in
    let l = c.loop-i in
    l.invariant
    ∙ ap (λ (b : List ℕ). overwrite b a.part.now) (take_all l.i a.from.now (omega arith))
    ∙ overwrite-all a.from.now a.part.now (sym c.requires)
