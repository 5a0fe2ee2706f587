-- `connections::Switches::connected_map` meets its contract: on the rim every track to itself, else `switch_track` at the sides that
-- `channels::Chip::meeting` returns. Assumes nothing.
use mathlib.Core.Path.{sym, ap, ◌∙◌}
use native.Mathlib.Omega.{arith}
use Rattle.std.proofs.Common.{rules}
use Rattle.channels.specs.declared.Meeting.{Meeting}
use Rattle.channels.proofs.MeetingsLaws.{where_met-some, where_met-has}
use Rattle.grid.specs.Grid.{meeting, on_rim}
use Rattle.grid.proofs.MeetingLaws.{meeting-sides-lt}
use Rattle.switchbox.specs.SwitchBox.{switch_track}
use Rattle.switchbox.proofs.ShiftLaws.{map_is-same, map_is-self}
use Rattle.switchbox.proofs.SwitchBoxLaws.{connected-rim, connected-inner}
use Rattle.connections.proofs.Switches.connected_map.Goals as goal

pub unwrap-m-requires : goal.unwrap-m-requires
unwrap-m-requires c = let a = c.args in rw (c.meeting.ensures, where_met-some (meeting a.self.boxes.fabric.grid a.c a.d) c.requires.3) (search rules)

pub returns-then-is_on_rim : goal.returns-then-is_on_rim
returns-then-is_on_rim c =
    let a = c.args in
    let f = a.self.boxes.fabric in
    let m = where_met-has (meeting f.grid a.c a.d) c.requires.3 c.meeting.ensures c.unwrap-m.ensures in
    let rim = sym (ap (λ (m : Meeting). on_rim f.grid m.at) m) ∙ sym c.is_on_rim.ensures ∙ c.if-is_on_rim.true in
    map_is-same (map_is-self a.self.width c.requires.0) (λ t l. sym (connected-rim f a.self.width a.c a.d t rim))

pub switch_map-requires : goal.switch_map-requires
switch_map-requires c =
    let a = c.args in
    let f = a.self.boxes.fabric in
    let m = where_met-has (meeting f.grid a.c a.d) c.requires.3 c.meeting.ensures c.unwrap-m.ensures in
    let s = meeting-sides-lt a.self.made.allowed.sized a.c a.d c.requires.3 in
    (c.requires.0, omega (arith, s.0, ap (λ (m : Meeting). m.from) m), omega (arith, s.1, ap (λ (m : Meeting). m.to) m))

pub returns : goal.returns
returns c =
    let a = c.args in
    let f = a.self.boxes.fabric in
    let m = where_met-has (meeting f.grid a.c a.d) c.requires.3 c.meeting.ensures c.unwrap-m.ensures in
    let rim = sym (ap (λ (m : Meeting). on_rim f.grid m.at) m) ∙ sym c.is_on_rim.ensures ∙ c.if-is_on_rim.false in
    map_is-same c.switch_map.ensures (λ t l.
    ap (λ (m : Meeting). switch_track f.kind f.rows a.self.width m.from m.to t) m ∙ sym (connected-inner f a.self.width a.c a.d t rim))
