-- `connections::Switches::switch_map` meets its contract: the sign and shift of the pair in the table, `made-bounds` and `made-track`. Assumes nothing.
use mathlib.Core.Path.{ap, ◌∙◌}
use Prim.Native.Nat.{ℕ}
use native.Mathlib.Nat.{mod-lt}
use lib.ListN.{get_or}
use Rattle.switchbox.specs.SwitchBox.{side_pair}
use Rattle.switchbox.specs.Facts.{mapped}
use Rattle.switchbox.proofs.ShiftLaws.{mapped-shifted}
use Rattle.switchbox.proofs.GeneratorLaws.{made-bounds, made-track}
use Rattle.connections.proofs.Switches.switch_map.Goals as goal

pub shift_mod-requires : goal.shift_mod-requires
shift_mod-requires c = let s = c.args.self in ((made-bounds s.made _ _ c.requires.1 c.requires.2).1, c.requires.0, s.narrow)

pub returns : goal.returns
returns c =
    let a = c.args in
    let w = a.self.width in
    let p = c.requires in
    let l = made-bounds a.self.made a.from a.to p.1 p.2 in
    let s = c.shift_mod.ensures in
    rw c.from.ensures
    (record {
      sign = l.0;
      low = rw s (mod-lt _ p.0);
      same = λ t h.
          ap (λ (x : ℕ). mapped w (get_or a.self.boxes.table.signs (side_pair a.from a.to) 0) x t) s
          ∙ mapped-shifted _ _ w t l.1 h
          ∙ made-track a.self.made a.from a.to p.1 p.2 w t h;
    })
