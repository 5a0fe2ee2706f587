-- What the functions of `ticket_promises` state of a call's own answer and bytes (00, demands 2 and 3; 01 "A word with whoever tests"), once over
-- the call. Definitions only; laws: proofs/TicketLaws.antt. Assumes nothing.
use Rattle.std.specs.Prelude.{◌≡◌, ◌⊎◌, ◌≢◌, ℕ, ◌≤◌, ◌<◌, List}
use Rattle.numbers.specs.Numbers.{unroutable_no}
use Rattle.netlist.specs.Netlist.{width_of}
use Rattle.assignment.specs.Check.{check_of}
use Rattle.routing.specs.declared.Answer.{Answer}
use Rattle.routing.specs.Equivalent.{SameButWidth}
use Rattle.routing.specs.declared.Call.{Call}
use Rattle.routing.specs.declared.Call.TheVariants.{Route, Least, Refit}
use Rattle.routing.specs.Outcomes.{Inputs, nets_in, moved_by}
use Rattle.routing.specs.Results.{homes_in, moved_in, assignment_in, Written, SpentExactly, Refused, LeastStops}
use Rattle.demands.specs.Demand3.{WidthFor}
use Rattle.netsearch.specs.HomeTrack.{NotAfter}
use Rattle.netsearch.specs.declared.Search.{Search}
use Rattle.answers.specs.Promises.{Gave}

-- ---- a call and Check

-- the sheet that Check is lent beside a call on s: s; beside Least any that differs from s in W alone
abbrev pub CheckedOn : Call → List ℕ → List ℕ → Type 0
CheckedOn (Route h) s t = t ≡ s
CheckedOn (Least h) s t = SameButWidth s t
CheckedOn Refit s t = t ≡ s

-- Check is at the width of the answer r: always; beside Least where W is the width found
abbrev pub AtItsWidth : Call → Answer → List ℕ → Type 0
AtItsWidth (Route h) r t = Unit {0}
AtItsWidth (Least h) r t = width_of t ≡ r.width
AtItsWidth Refit r t = Unit {0}

-- "A ticket that is written or passed joins every net … and gives no wire to two nets", "without these wires" (02, M-105): Check's number on the
-- sheet t, with the list that the call was lent, for what was written
pub record Passes (c : Call) (i : Inputs) (t : List ℕ) (r : Answer) (after : List ℕ) (check : ℕ) : Type 0 where
  pub gave : Gave c i r after
  pub checked : r.number ≡ 0 → check ≡ check_of t i.dead (assignment_in i after)
  pub passes : r.number ≡ 0 → AtItsWidth c r t → check ≡ 0

-- "the first right ticket", "the first ticket there", "the first ticket among the right ones in which the fewest placed nets have another
-- home track": b comes no later than a
abbrev pub NoLater : Call → Inputs → List ℕ → List ℕ → Type 0
NoLater (Route h) i b a = NotAfter (nets_in i) b a
NoLater (Least h) i b a = NotAfter (nets_in i) b a
NoLater Refit i b a = (moved_in i b < moved_in i a) ⊎ ((moved_in i b ≤ moved_in i a) × NotAfter (nets_in i) b a)

-- Check's number on the sheet t, with the same list, for any other ticket b, "whatever bytes he chooses"
pub record Beside (c : Call) (i : Inputs) (t : List ℕ) (r : Answer) (after b : List ℕ) (check : ℕ) : Type 0 where
  pub gave : Gave c i r after
  pub checked : check ≡ check_of t i.dead b
  -- 'Nobody who was told "unroutable" can write a right ticket for that sheet at that width, … or at any width from 1 to 32 where the least
  -- was wanted.'
  pub unroutable : r.number ≡ unroutable_no → check ≢ 0
  -- "Nobody who holds a least width can write a right ticket at any smaller width from 1."
  pub smaller : r.number ≡ 0 → width_of t < r.width → check ≢ 0
  -- "Of all right tickets the router writes the first in the order of our paper."
  pub first : r.number ≡ 0 → AtItsWidth c r t → check ≡ 0 → NoLater c i (assignment_in i after) b

-- ---- one call

-- the numbers of an answer, what is written, and the trials of the plain search
pub record Counted (c : Call) (i : Inputs) (r : Answer) (after : List ℕ) : Type 0 where
  pub gave : Gave c i r after
  pub spent : SpentExactly c i r
  pub refused : Refused c i r
  pub written : Written i r.number after
  pub width : r.number ≡ 0 → WidthFor c i r.width
  -- the width in use of Least (02, M-105)
  pub stops : (h : Search) → c ≡ Least h → LeastStops h i r
  -- "that count is reported as moved", of what was written; "moved is 0 outside Refit"
  pub moved : r.number ≡ 0 → r.moved ≡ moved_by c i (homes_in i (assignment_in i after))
  pub unmoved : c ≢ Refit → r.moved ≡ 0
