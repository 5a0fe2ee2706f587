-- `removal::write_net` meets its contract: the loop's invariant is that the first i bytes of the part are what is left of the first i bytes
-- of the net. Assumes nothing.
use mathlib.Core.Path.{sym, ◌∙◌}
use native.Mathlib.Omega.{arith}
use Rattle.routing.specs.Remove.{left_of}
use Rattle.routing.proofs.OverwriteLaws.{overwrite-none, mapped-more, mapped-all}
use Rattle.removal.proofs.write_net.Goals as goal

pub loop-i-init : goal.loop-i-init
loop-i-init c = sym (overwrite-none _)

pub loop-i-preserved : goal.loop-i-preserved
loop-i-preserved c =
    let a = c.args in
    let l = c.loop-i in
    rw (l.invariant, c.left_of.ensures) (mapped-more (left_of a.taken) a.own.now a.part.now l.i c.requires (omega arith))

pub returns : goal.returns
returns c =
    let a = c.args in
    c.loop-i.invariant ∙ mapped-all (left_of a.taken) a.own.now a.part.now c.loop-i.i c.requires (omega arith)
