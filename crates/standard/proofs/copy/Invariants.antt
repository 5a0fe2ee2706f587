use mathlib.Core.Path.{◌≡◌}
use lib.ListN.{take}
use Rattle.routing.specs.Outcomes.{overwrite}
use Rattle.standard.proofs.copy.Given as goal

abbrev pub invariant-loop-i : goal.invariant-loop-i
invariant-loop-i l = l.part ≡ overwrite (take l.i l.from) l.initial.part
