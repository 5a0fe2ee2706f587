-- The tables of nets that `wires::NetTables` holds. Definitions only. Assumes nothing.
use Rattle.wires.specs.declared.NetTables.{NetTables}
use Rattle.wires.specs.Wires.{Tables, tables_of}

-- all of them but the table of track maps, which MapTable determines
abbrev pub nets_of : NetTables → Tables
nets_of p = tables_of p.start.now p.chan.now p.maps.now p.width
