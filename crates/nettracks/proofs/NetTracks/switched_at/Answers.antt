-- `nettracks::NetTracks::switched_at` meets its contract: each return is one case of `switched_at`; a later entry's parent is an earlier
-- entry, its channel meets the entry's, and its track is in range. Assumes nothing.
use mathlib.Core.Path.{◌≡◌, sym, ap, ap₂, ◌∙◌}
use Prim.Native.Nat.{ℕ, ◌<◌}
use native.Mathlib.Omega.{arith}
use lib.Dec.{eqb}
use lib.ListN.{get_or}
use Rattle.grid.specs.Grid.{meet}
use Rattle.switchbox.specs.SwitchBox.{connected}
use Rattle.net.specs.Net.{size, channel, parent}
use Rattle.net.specs.Read.{net_read}
use Rattle.net.proofs.NetLaws.{parents_right-at}
use Rattle.nettracks.proofs.NetTracksLaws.{in_range-at, switched_at-first, switched_at-later}
use Rattle.nettracks.proofs.NetTracks.switched_at.Goals as goal

pub returns-then-i-eq0 : goal.returns-then-i-eq0
returns-then-i-eq0 c =
    let s = c.args.self in
    sym (switched_at-first (connected s.switches.boxes.fabric s.switches.width) (net_read s.record) s.tracks.now c.args.i c.if-i-eq0.true)

-- the parent is an earlier entry
pub channel-c-requires : goal.channel-c-requires
channel-c-requires c =
    let s = c.args.self in
    let l = (parents_right-at _ _ s.parents c.args.i (omega arith) c.requires.1).0 in
    omega arith

pub byte_at-t-requires : goal.byte_at-t-requires
byte_at-t-requires c =
    let s = c.args.self in
    let l = (parents_right-at _ _ s.parents c.args.i (omega arith) c.requires.1).0 in
    omega (arith, s.sized)

-- and their channels meet
pub connected_track-requires : goal.connected_track-requires
connected_track-requires c =
    let s = c.args.self in
    let i = c.args.i in
    let n = net_read s.record in
    let j = parent n i in
    let rule = parents_right-at _ _ s.parents i (omega arith) c.requires.1 in
    let e = c.parent-p.ensures.0 in
    let l : j < size n = omega (arith, rule.0) in
    let t : c.byte_at-t.result ≡ get_or s.tracks.now j 0 = c.byte_at-t.ensures.0 ∙ ap (λ (k : ℕ). get_or s.tracks.now k 0) e in
    let m = in_range-at s.switches.width n s.tracks.now c.requires.0 j l in (
      omega arith,
      omega arith,
      ap₂ (meet s.switches.boxes.fabric.grid) (c.channel-c.ensures.0 ∙ ap (λ (k : ℕ). channel n k) e) c.channel-d.ensures.0 ∙ rule.1,
      omega arith,
    )

pub returns : goal.returns
returns c =
    let s = c.args.self in
    let i = c.args.i in
    let n = net_read s.record in
    let j = parent n i in
    let partner = connected s.switches.boxes.fabric s.switches.width in
    let e = c.parent-p.ensures.0 in
    let x = c.byte_at-t.result in
    let y = ap₂ (λ (d f : ℕ). partner d f x) (c.channel-c.ensures.0 ∙ ap (λ (k : ℕ). channel n k) e) c.channel-d.ensures.0
    ∙ ap (partner (channel n j) (channel n i)) (c.byte_at-t.ensures.0 ∙ ap (λ (k : ℕ). get_or s.tracks.now k 0) e) in
    ap₂ eqb c.byte_at.ensures.0 (c.connected_track.ensures ∙ y) ∙ sym (switched_at-later partner n s.tracks.now i (omega arith))
