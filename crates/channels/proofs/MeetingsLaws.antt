-- Laws of where two channels meet, as the code has it (specs/Meetings.antt). Assumes nothing.
-- first_of: of four pairs of ends in turn, the first that is at one box. where_met: what it has of channels that meet.
use mathlib.Core.Path.{◌≡◌, refl}
use mathlib.Core.Bool.{Bool, true, false}
use lib.Dec.{eqb}
use Rattle.std.specs.Prelude.{Option, Some, None}
use Rattle.std.specs.Option.{option_or}
use Rattle.grid.specs.declared.End.{End}
use Rattle.grid.specs.Grid.{Meeting, apart, meeting_or}
use Rattle.grid.proofs.GridLaws.{meeting_of, meeting-same, meeting-ends}
use Rattle.channels.specs.declared.Meeting.{Meeting as Met}
use Rattle.channels.specs.Meetings.{where_met}

-- where channels with the ends p and q meet, if these are at one box
abbrev pub here : End → End → Option Met
here p q = where_met (meeting_or p q apart)

here-or : (p q : End) (m : Meeting) → option_or (here p q) (where_met m) ≡ where_met (meeting_or p q m)
unfolding meeting_or
here-or p q m = at (eqb p.at q.at) refl
  where
    at : (b : Bool) → eqb p.at q.at ≡ b → option_or (here p q) (where_met m) ≡ where_met (meeting_or p q m)
    at true e = rw (e, meeting_or)
    at false e = rw (e, meeting_or)

or_assoc : (x y z : Option Met) → option_or (option_or x y) z ≡ option_or x (option_or y z)
or_assoc None y z = refl
or_assoc (Some m) y z = refl

pub first_of : (p q r s : End) → option_or (option_or (option_or (here p r) (here p s)) (here q r)) (here q s) ≡ where_met (meeting_of p q r s)
first_of p q r s =
    rw (or_assoc (option_or (here p r) (here p s)) (here q r) (here q s), or_assoc (here p r) (here p s) _, here-or, here-or, here-or)

module _ (m : Meeting) (met : m.met ≡ true) where
  pub where_met-some : where_met m ≡ Some (record { at = m.at; from = m.from; to = m.to })
  where_met-some = rw (met, where_met)

  -- what an answer has, which is known to be none that says nothing
  pub where_met-has : {o : Option Met} {r : Met} → o ≡ where_met m → o ≡ Some r → r ≡ record { at = m.at; from = m.from; to = m.to }
  where_met-has e f = let h = where_met-some in cc

-- the meeting of two channels, as the code finds it
pub ruleset meeting_steps = (meeting-same, meeting-ends, first_of)
