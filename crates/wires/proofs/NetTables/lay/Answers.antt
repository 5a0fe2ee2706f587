-- `wires::NetTables::lay` meets its contract: the loop's invariant is that the wires of the entries passed are held. Assumes nothing.
use native.Mathlib.Omega.{arith}
use Rattle.wires.proofs.LaidLaws.{up_to-none, all_laid, track-asked, hold-asked, up_to-more}
use Rattle.wires.proofs.NetTables.lay.Goals as goal

pub loop-e-init : goal.loop-e-init
loop-e-init c = up_to-none

pub mapped_at-x-requires : goal.mapped_at-x-requires
mapped_at-x-requires c = track-asked c.requires.triable c.args.self.now.narrow c.loop-e.auto.e c.loop-e-test.true

pub hold-requires : goal.hold-requires
hold-requires c =
    let p = c.requires in
    hold-asked p.triable c.args.self.now.narrow c.loop-e.auto.e c.loop-e-test.true c.mapped_at-x.ensures p.taken_len.0 p.taken_len.1
    c.loop-e.invariant

pub loop-e-preserved : goal.loop-e-preserved
loop-e-preserved c =
    let p = c.requires in
    up_to-more p.triable c.args.self.now.narrow c.loop-e.auto.e c.loop-e-test.true c.mapped_at-x.ensures p.taken_len.0 p.taken_len.1
    c.loop-e.invariant
    c.hold.ensures

pub returns : goal.returns
returns c = all_laid c.loop-e.invariant (omega (arith, c.requires.triable.net.rises))
