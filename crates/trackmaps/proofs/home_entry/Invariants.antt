use mathlib.Core.Path.{◌≡◌}
use Rattle.net.specs.Net.{channels, channel}
use Rattle.net.specs.Read.{net_read}
use Rattle.trackmaps.proofs.HomeLaws.{FirstLowest}
use Rattle.trackmaps.proofs.home_entry.Given as goal

abbrev pub invariant-loop-i : goal.invariant-loop-i
invariant-loop-i l = let n = net_read l.net in (l.low ≡ channel n l.at) × FirstLowest (channels n) l.i l.at
