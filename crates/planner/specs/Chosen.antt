-- The nets that the tables are made of (specs/Planned.antt). Definitions only. Assumes nothing.
use Rattle.std.specs.Prelude.{List}
use Rattle.net.specs.Net.{Net}
use Rattle.planner.specs.declared.Chosen.{Chosen}
use Rattle.planner.specs.Planned.{nets_at}

-- the nets of the sheet at the chosen places
abbrev pub chosen_nets : Chosen → List Net
chosen_nets c = nets_at c.sheet.netlist.bytes.now c.order.now c.count
