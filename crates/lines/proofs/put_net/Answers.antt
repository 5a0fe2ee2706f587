-- `lines::put_net` meets its contract: the loop's invariant is that the first i entries are written behind the number. Assumes nothing.
use mathlib.Core.Path.{ap}
use Prim.Native.Nat.{ℕ}
use native.Mathlib.Omega.{arith}
use lib.ListN.{get_or}
use Rattle.net.specs.Net.{size}
use Rattle.net.specs.Read.{net_read}
use Rattle.decimal.proofs.PutLaws.{room_before, room_after, appended_then}
use Rattle.lines.specs.Lines.{entry_text, net_line}
use Rattle.lines.proofs.LinesLaws.{grown-none, grown-room, grown-more, grown-all}
use Rattle.lines.proofs.put_net.Goals as goal

pub put_decimal-requires : goal.put_decimal-requires
unfolding net_line
put_decimal-requires c = rw c.number.ensures.0 (room_before _ (room_before _ c.requires.room))

pub loop-i-init : goal.loop-i-init
loop-i-init c = grown-none (rw c.number.ensures.0 at c.put_decimal.ensures)

pub put_entry-requires : goal.put_entry-requires
unfolding net_line
put_entry-requires c =
    let l = c.loop-i in
    let e = ap (λ (x : ℕ). entry_text x (get_or c.args.tracks.now l.i 0)) c.channel-channel.ensures.0 in
    grown-room l.invariant (size (net_read c.args.r)) (omega arith) (room_before _ c.requires.room) e

pub loop-i-preserved : goal.loop-i-preserved
unfolding net_line
loop-i-preserved c =
    let l = c.loop-i in
    let e = ap (λ (x : ℕ). entry_text x (get_or c.args.tracks.now l.i 0)) c.channel-channel.ensures.0 in
    grown-more l.invariant (size (net_read c.args.r)) (omega arith) (room_before _ c.requires.room) e c.put_entry.ensures

pub put_byte-requires : goal.put_byte-requires
unfolding net_line
put_byte-requires c = room_after _ (grown-all c.loop-i.invariant (size (net_read c.args.r)) (omega arith)) c.requires.room

pub returns : goal.returns
unfolding net_line
returns c = appended_then c.requires.room (grown-all c.loop-i.invariant (size (net_read c.args.r)) (omega arith)) c.put_byte.ensures
