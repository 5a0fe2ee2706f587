-- `writer::write_net` meets its contract: the loop's invariant is that the first i bytes of the part are the tracks of the first i track maps.
-- Assumes nothing.
use mathlib.Core.Path.{sym, ◌∙◌}
use native.Mathlib.Omega.{arith}
use Rattle.wires.specs.Wires.{mapped_by}
use Rattle.routing.proofs.OverwriteLaws.{overwrite-none, mapped-more, mapped-all}
use Rattle.writer.proofs.write_net.Goals as goal

pub loop-i-init : goal.loop-i-init
loop-i-init c = sym (overwrite-none _)

pub loop-i-preserved : goal.loop-i-preserved
loop-i-preserved c =
    let a = c.args in
    let l = c.loop-i in
    rw (l.invariant, c.mapped_by.ensures.0) (mapped-more (λ code. mapped_by a.w code a.h) a.codes.now a.part.now l.i c.requires.0 (omega arith))

pub returns : goal.returns
returns c =
    let a = c.args in
    c.loop-i.invariant ∙ mapped-all (λ code. mapped_by a.w code a.h) a.codes.now a.part.now c.loop-i.i c.requires.0 (omega arith)
