-- `wires::NetTables::unlay` meets its contract: the loop's invariant is that the wires of the entries before e are held, whatever marks they
-- were laid on. Assumes nothing.
use Rattle.wires.proofs.LaidLaws.{none-laid, track-asked_down, release-asked, up_to-less}
use Rattle.wires.proofs.NetTables.unlay.Goals as goal

pub mapped_at-x-requires : goal.mapped_at-x-requires
mapped_at-x-requires c = track-asked_down c.requires.triable c.args.self.now.narrow c.loop-e-test.true c.loop-e.auto.e

pub release-requires : goal.release-requires
release-requires c =
    let on = c.requires.by_index.1 in
    release-asked c.requires.triable c.args.self.now.narrow c.loop-e-test.true c.loop-e.auto.e c.mapped_at-x.ensures on (c.loop-e.invariant _ on)

pub loop-e-preserved : goal.loop-e-preserved
loop-e-preserved c before on =
    up_to-less c.requires.triable c.args.self.now.narrow c.loop-e-test.true c.loop-e.auto.e c.mapped_at-x.ensures on
    (c.loop-e.invariant before on)
    c.release.ensures

pub returns : goal.returns
returns c before on = none-laid (c.loop-e.invariant before on) c.loop-e-test.false
