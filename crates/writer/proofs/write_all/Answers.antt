-- `writer::write_all` meets its contract: the loop's invariant is that the bytes of the nets before j are written, and those of net j start
-- at `at`. Assumes nothing.
use Prim.Native.Nat.{ℕ}
use native.Mathlib.Omega.{arith}
use lib.ListN.{length-take, length-drop}
use Rattle.planner.proofs.PlacesLaws.{sheet-count}
use Rattle.writer.proofs.NetsLaws.{in_tables, in_tables-codes, nets_written-none, nets_written-room, nets_written-more, nets_written-all}
use Rattle.writer.proofs.write_all.Goals as goal

pub loop-j-init : goal.loop-j-init
loop-j-init c = nets_written-none

pub slice_bounds-codes-count : goal.slice_bounds-codes-count
slice_bounds-codes-count c =
    let i = in_tables c.args.sheet c.requires.started c.requires.writable.0 c.told-maps (omega arith) c.rank_of-k.ensures.0 in omega arith

pub slice_bounds-codes-start : goal.slice_bounds-codes-start
slice_bounds-codes-start c =
    let i = in_tables c.args.sheet c.requires.started c.requires.writable.0 c.told-maps (omega arith) c.rank_of-k.ensures.0 in omega arith

pub slice_bounds-codes-end : goal.slice_bounds-codes-end
slice_bounds-codes-end c =
    let i = in_tables c.args.sheet c.requires.started c.requires.writable.0 c.told-maps (omega arith) c.rank_of-k.ensures.0 in omega arith

pub overflow_add-end : goal.overflow_add-end
overflow_add-end c =
    let i = in_tables c.args.sheet c.requires.started c.requires.writable.0 c.told-maps (omega arith) c.rank_of-k.ensures.0 in
    let r = nets_written-room c.loop-j.invariant c.requires.writable.1 (omega (arith, sheet-count c.args.sheet)) in
    omega arith

pub slice_bounds-write_net-end : goal.slice_bounds-write_net-end
slice_bounds-write_net-end c =
    let i = in_tables c.args.sheet c.requires.started c.requires.writable.0 c.told-maps (omega arith) c.rank_of-k.ensures.0 in
    let r = nets_written-room c.loop-j.invariant c.requires.writable.1 (omega (arith, sheet-count c.args.sheet)) in
    omega arith

pub write_net-requires : goal.write_net-requires
write_net-requires c =
    let i = in_tables c.args.sheet c.requires.started c.requires.writable.0 c.told-maps (omega arith) c.rank_of-k.ensures.0 in
    let r = nets_written-room c.loop-j.invariant c.requires.writable.1 (omega (arith, sheet-count c.args.sheet)) in
    (simp length-take (omega (arith, length-drop {A = ℕ})), in_tables-codes i c.requires.writable.0.width)

pub loop-j-preserved : goal.loop-j-preserved
loop-j-preserved c =
    nets_written-more c.loop-j.invariant c.requires.writable.1 (omega (arith, sheet-count c.args.sheet))
    (in_tables c.args.sheet c.requires.started c.requires.writable.0 c.told-maps (omega arith) c.rank_of-k.ensures.0)
    c.write_net.ensures

pub returns : goal.returns
returns c = nets_written-all _ c.loop-j.invariant (omega (arith, sheet-count c.args.sheet))
