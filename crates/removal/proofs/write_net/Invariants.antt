use mathlib.Core.Path.{◌≡◌}
use mathlib.Core.List.{map}
use lib.ListN.{take}
use Rattle.routing.specs.Outcomes.{overwrite}
use Rattle.routing.specs.Remove.{left_of}
use Rattle.removal.proofs.write_net.Given as goal

abbrev pub invariant-loop-i : goal.invariant-loop-i
invariant-loop-i l = l.part ≡ overwrite (map (left_of l.taken) (take l.i l.own)) l.initial.part
