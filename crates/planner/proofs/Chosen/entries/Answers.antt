-- `planner::Chosen::entries` meets its contract: the loop's invariant is that the entries of the nets passed are listed, and e is where the
-- next one's start. Assumes nothing.
use mathlib.Core.Path.{◌≡◌, sym, ap}
use Prim.Native.Nat.{◌<◌}
use native.Mathlib.Omega.{arith}
use lib.ListN.{length, length-set}
use Rattle.net.specs.Net.{size}
use Rattle.assignment.proofs.AssignmentLaws.{first_byte-none, first_byte-more}
use Rattle.planner.specs.Chosen.{chosen_nets}
use Rattle.planner.proofs.PlacesLaws.{chosen-length, record-short}
use Rattle.planner.proofs.FilledLaws.{listed-none, listed_more, listed-all}
use Rattle.std.proofs.Common.{rules}
use Rattle.planner.proofs.Chosen.entries.Goals as goal

pub loop-k-init : goal.loop-k-init
loop-k-init c = (sym (first_byte-none _), omega arith, search rules, listed-none _ _ _ (search rules))

pub channels_from-requires : goal.channels_from-requires
channels_from-requires c = omega (arith, record-short c.record-record.result, c.args.self.places.few)

pub loop-k-preserved : goal.loop-k-preserved
loop-k-preserved c =
    let h = c.args.self in
    let k = c.loop-k.k in
    let l : k < 64 = omega (arith, h.places.few) in
    let m : k < length (chosen_nets h) = omega (arith, chosen-length h) in
    let e = first_byte-more (chosen_nets h) k m in
    let z = ap size c.record-record.ensures in (
      omega arith,
      omega arith,
      simp length-set c.loop-k.invariant.2,
      listed_more (chosen_nets h) k m _ _ _ _ (omega arith) (omega arith) c.loop-k.invariant.3
          (rw (c.loop-k.invariant.0, c.record-record.ensures) at c.channels_from.ensures),
    )

pub returns : goal.returns
returns c =
    let h = c.args.self in
    let e : c.loop-k.k ≡ length (chosen_nets h) = omega (arith, chosen-length h) in
    listed-all (chosen_nets h) c.loop-k.start c.loop-k.chan (rw e at c.loop-k.invariant.3)
