-- What the functions of `promises` state of the calls' own answers and bytes (00, demands 2 and 3; 01 "A word with whoever tests"; 02, M-105),
-- once over the call. Definitions only; laws: proofs/PromisesLaws.antt. Assumes nothing.
use Rattle.std.specs.Prelude.{◌≡◌, ◌≢◌, ℕ, List}
use Rattle.numbers.specs.Numbers.{spent_no}
use Rattle.netlist.specs.Netlist.{WellFormed, width_of, channels_of}
use Rattle.defects.specs.Defects.{AcceptedList, SameItems, SameBelow}
use Rattle.assignment.specs.Check.{check_of}
use Rattle.netsearch.specs.declared.Search.{Search}
use Rattle.routing.specs.declared.Answer.{Answer}
use Rattle.routing.specs.Equivalent.{SameOutcome, SameButWidth}
use Rattle.routing.specs.declared.Call.{Call}
use Rattle.routing.specs.declared.Call.TheVariants.{Least}
use Rattle.routing.specs.Outcomes.{Inputs, with_budget, with_sheet, with_dead, answer_of, output_of}
use Rattle.routing.specs.Results.{last_width}

-- the answer r and the output `after` are those of the call
abbrev pub Gave : Call → Inputs → Answer → List ℕ → Type 0
Gave c i r after = (r ≡ answer_of c i) × (after ≡ output_of c i)

-- ---- two calls

-- "Route, Least and Refit give the same verdict, width, trial count and move count on the two, and the same track for each net in each of
-- its channels": the answers a and b, with the outputs `after` and `after2`
pub record Relisted (c : Call) (i j : Inputs) (a b : Answer) (after after2 : List ℕ) : Type 0 where
  pub first : Gave c i a after
  pub second : Gave c j b after2
  pub same : SameOutcome i j a b after after2

-- 'However far the budget is raised, any verdict but "spent" stays, and with it the width, both counts and every byte of the output.'
pub record Raised (c : Call) (i : Inputs) (larger : ℕ) (a b : Answer) (after after2 : List ℕ) : Type 0 where
  pub first : Gave c i a after
  pub second : Gave c (with_budget i larger) b after2
  pub stays : a.number ≢ spent_no → (b ≡ a) × (after2 ≡ after)

-- accepted sheets that differ in W alone, or without nets in the mark too
pub record DifferInWidth (s t : List ℕ) : Type 0 where
  pub accepted : WellFormed s
  pub accepted2 : WellFormed t
  pub same : SameButWidth s t

-- Least "reads no W but the check on it": on the sheet lent and on t
pub record AnyWidth (h : Search) (i : Inputs) (t : List ℕ) (a b : Answer) (after after2 : List ℕ) : Type 0 where
  pub first : Gave (Least h) i a after
  pub second : Gave (Least h) (with_sheet i t) b after2
  pub same : (b ≡ a) × (after2 ≡ after)

-- ---- two lists of dead wires (02, M-105)

-- accepted for the chip of the sheet s, with the same wires below the width w: "Items at or above the width in use … are ignored but for 19 and
-- 20"
pub record SameDead (s : List ℕ) (w : ℕ) (d e : List ℕ) : Type 0 where
  pub accepted : AcceptedList (channels_of s) d
  pub accepted2 : AcceptedList (channels_of s) e
  pub same : SameBelow w d e

-- a call with the list lent and with e
pub record TwoLists (c : Call) (i : Inputs) (e : List ℕ) (a b : Answer) (after after2 : List ℕ) : Type 0 where
  pub first : Gave c i a after
  pub second : Gave c (with_dead i e) b after2
  -- the order of the items does not matter, also where they are refused
  pub any_order : SameItems i.dead e → (b ≡ a) × (after2 ≡ after)
  -- only wires below "the width in use, in Least the width tried" do: with 0 the width found, with 15 all 32, with 16 the one at which the budget
  -- ran out (`LeastStops`, in Counted)
  pub same_dead : SameDead i.sheet (last_width c i) i.dead e → (b ≡ a) × (after2 ≡ after)

-- Check of the ticket b with the list d and with e: the numbers x and y
pub record CheckedTwice (s d e b : List ℕ) (x y : ℕ) : Type 0 where
  pub first : x ≡ check_of s d b
  pub second : y ≡ check_of s e b
  pub any_order : SameItems d e → x ≡ y
  pub same_dead : SameDead s (width_of s) d e → x ≡ y
