-- What a track assignment is tested on and searched for: how the boxes connect tracks, which wires are broken, and how many channels there are
-- (01 "Chip and boxes"; 02, M-105). Definitions only. Assumes nothing.
use Rattle.std.specs.Prelude.{ℕ, List, Bool}
use Rattle.grid.specs.Grid.{Wire}
use Rattle.netlist.specs.Netlist.{connected_on, channels_of}
use Rattle.defects.specs.Defects.{is_dead}

pub record Board : Type 0 where
  -- 01: partner. `partner w c d i` is, at the width w, the track on channel d that track i on channel c is connected to
  pub partner : ℕ → ℕ → ℕ → ℕ → ℕ
  -- `broken v` says that the wire v is broken
  pub broken : Wire → Bool
  -- how many channels the grid has
  pub channels : ℕ

-- the chip of the sheet s with these wires broken, and with those of the list d of dead wires
abbrev pub board_with : List ℕ → (Wire → Bool) → Board
board_with s broken = record { partner = connected_on s; broken = broken; channels = channels_of s }

abbrev pub board_of : List ℕ → List ℕ → Board
board_of s d = board_with s (is_dead d)

-- the same board with these wires broken
abbrev pub with_broken : Board → (Wire → Bool) → Board
with_broken board broken = record { partner = board.partner; broken = broken; channels = board.channels }
