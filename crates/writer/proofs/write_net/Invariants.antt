use mathlib.Core.Path.{◌≡◌}
use lib.ListN.{take}
use Rattle.routing.specs.Outcomes.{overwrite}
use Rattle.writer.specs.Written.{tracks_from}
use Rattle.writer.proofs.write_net.Given as goal

abbrev pub invariant-loop-i : goal.invariant-loop-i
invariant-loop-i l = l.part ≡ overwrite (tracks_from l.w l.h (take l.i l.codes)) l.initial.part
