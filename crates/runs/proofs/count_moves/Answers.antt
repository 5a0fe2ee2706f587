-- `runs::count_moves` meets its contract: the loop's invariant is that moved counts the moves of the nets before k. Assumes nothing.
use mathlib.Core.Path.{◌≡◌, refl, sym, ap₂, ◌∙◌}
use Prim.Native.Nat.{◌+◌}
use native.Mathlib.Omega.{arith}
use native.Mathlib.Numerals.{add-one}
use Rattle.tracksearch.specs.Plan.{moves_from}
use Rattle.runs.proofs.count_moves.Goals as goal

pub loop-k-init : goal.loop-k-init
unfolding moves_from
loop-k-init c = (refl, omega arith)

pub loop-k-preserved : goal.loop-k-preserved
unfolding moves_from
loop-k-preserved c =
    (ap₂ ◌+◌ c.loop-k.invariant.0 c.move_of-moved.ensures.0 ∙ sym (rw add-one), omega arith)

pub returns : goal.returns
returns c =
    let e : c.loop-k.k ≡ c.args.n = omega arith in
    (rw e at c.loop-k.invariant.0, omega arith)
