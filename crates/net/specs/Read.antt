-- The net that a record's bytes say. Definitions only. Assumes nothing.
use Rattle.net.specs.declared.Record.{Record}
use Rattle.net.specs.Net.{Net, net_of}

abbrev pub net_read : Record → Net
net_read r = net_of r.z r.bytes.now
