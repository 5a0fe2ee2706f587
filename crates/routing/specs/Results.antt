-- What the answers of Route, Least and Refit are to mean, in terms of legal assignments and not of the search (01 "The job", "The ticket",
-- "Words for no"), and which numbers each call gives. Definitions only; that the outcomes are this: crate demands. Assumes nothing.
use Rattle.std.specs.Prelude.{◌≡◌, ◌⊎◌, ◌↔◌, ◌≢◌, ℕ, ◌-◌, ◌≤◌, ◌<◌, List, [], ◌∷◌, ◌++◌, true, false, length, take, drop}
use Rattle.numbers.specs.Numbers.{unroutable_no, spent_no, list_no, repeat_no}
use Rattle.bounded.specs.Lists.{memb}
use Rattle.backtracking.specs.Search.{Outcome, trials}
use Rattle.backtracking.specs.Budget.{spent, keep, under_budget}
use Rattle.backtracking.specs.Ends.{trials_of, end_from}
use Rattle.switchbox.specs.SwitchBox.{connected}
use Rattle.netlist.specs.Netlist.{WellFormed, channels_of, nets}
use Rattle.defects.specs.Defects.{KnownItems, NoRepeat, is_dead}
use Rattle.net.specs.Nets.{entry_count}
use Rattle.rank.specs.Rank.{rising}
use Rattle.assignment.specs.Assignment.{LegalAt, PartlyLegalAt}
use Rattle.netsearch.specs.HomeTrack.{homes, byte_of, NotAfter}
use Rattle.netsearch.specs.PlainSearch.{widths_tried, plain_search, narrowest}
use Rattle.netsearch.specs.declared.Search.{Search}
use Rattle.routing.specs.declared.Answer.{Answer}
use Rattle.routing.specs.declared.Call.{Call}
use Rattle.routing.specs.declared.Call.TheVariants.{Route, Least, Refit}
use Rattle.routing.specs.Outcomes.{Inputs, width_in, nets_in, run, moved_by, number_before, search_at}

-- b is legal, 01: right, at the width w for what a call is lent
abbrev pub LegalFor : Inputs → ℕ → List ℕ → Type 0
LegalFor i w b = LegalAt i.sheet i.dead w b

-- b is legal for its routed nets, 01: right for the placed nets, at the width W for what a call is lent
abbrev pub PartlyLegalFor : Inputs → List ℕ → Type 0
PartlyLegalFor i b = PartlyLegalAt i.sheet i.dead (width_in i) b

-- 15 unroutable: "no right ticket" at the width w, "any list of one byte per entry"; '"unroutable", now' means "without these wires" (02, M-105)
abbrev pub Unroutable : Inputs → ℕ → Type 0
Unroutable i w = (b : List ℕ) → LegalFor i w b → ⊥

-- "the first right ticket" at the width w
pub record FirstLegal (i : Inputs) (w : ℕ) (b : List ℕ) : Type 0 where
  pub legal : LegalFor i w b
  pub first : (a : List ℕ) → LegalFor i w a → NotAfter (nets_in i) b a

-- "the smallest width from 1 to 32 that has a right ticket"
pub record LeastWidth (i : Inputs) (w : ℕ) : Type 0 where
  pub low : 1 ≤ w
  pub high : w ≤ 32
  pub legal : (b : List ℕ) × LegalFor i w b
  pub smaller : (v : ℕ) → 1 ≤ v → v < w → Unroutable i v

-- the home tracks of the assignment b, nets in rising net number
abbrev pub homes_in : Inputs → List ℕ → List ℕ
homes_in i b = homes (byte_of (nets_in i) b) (rising (nets_in i))

-- how many placed nets have another home track in b than in the old assignment
abbrev pub moved_in : Inputs → List ℕ → ℕ
moved_in i b = moved_by Refit i (homes_in i b)

-- "the first ticket among the right ones in which the fewest placed nets have another home track"
pub record FewestMoved (i : Inputs) (w : ℕ) (b : List ℕ) : Type 0 where
  pub legal : LegalFor i w b
  pub fewest : (a : List ℕ) → LegalFor i w a → (moved_in i b < moved_in i a) ⊎ ((moved_in i b ≤ moved_in i a) × NotAfter (nets_in i) b a)

-- the assignment in an output: its first bytes, one per entry
abbrev pub assignment_in : Inputs → List ℕ → List ℕ
assignment_in i out = take (entry_count (nets_in i)) out

-- "No refusal writes.", and success writes k bytes "from the start of the output; later bytes keep their values": the output before, the
-- number n, and the output `after` it
pub record WrittenTo (k : ℕ) (out : List ℕ) (n : ℕ) (after : List ℕ) : Type 0 where
  pub sized : length after ≡ length out
  pub refused : n ≢ 0 → after ≡ out
  pub later : drop k after ≡ drop k out

-- "Success writes exactly the entry count of bytes"
abbrev pub Written : Inputs → ℕ → List ℕ → Type 0
Written i n after = WrittenTo (entry_count (nets_in i)) i.out n after

-- '"Spent" comes exactly if the whole run needs more trials than the budget.': the answer a
pub record SpentExactly (c : Call) (i : Inputs) (a : Answer) : Type 0 where
  pub exactly : (a.number ≡ spent_no) ↔ ((number_before c i ≡ 0) × (i.budget < trials (run c i)))
  -- "with 16 it is the budget"
  pub spent : a.number ≡ spent_no → a.trials ≡ i.budget
  -- else all trials of the run
  pub counted : number_before c i ≡ 0 → a.number ≢ spent_no → a.trials ≡ trials (run c i)

-- "Read and Record use 1–9, Check 1–13, Route and Least 1–9 and 14–16, Refit all" of 1–16, and 0; Remove (02, M-100) 1–13, 17 and 14; each 18
-- (02, M-102), which a sheet's rows get; those that are lent a list 19 and 20, Check and Refit 21 (02, M-105)
abbrev pub read_numbers : List ℕ
read_numbers = 0 ∷ 1 ∷ 2 ∷ 3 ∷ 4 ∷ 5 ∷ 18 ∷ 6 ∷ 7 ∷ 8 ∷ 9 ∷ []

-- with those of a list of dead wires
abbrev pub listed_numbers : List ℕ
listed_numbers = read_numbers ++ (19 ∷ 20 ∷ [])

-- those of a ticket's tests
abbrev pub ticket_numbers : List ℕ
ticket_numbers = 10 ∷ 11 ∷ 12 ∷ 21 ∷ 13 ∷ []

abbrev pub check_numbers : List ℕ
check_numbers = listed_numbers ++ ticket_numbers

abbrev pub numbers_of : Call → List ℕ
numbers_of (Route h) = listed_numbers ++ (14 ∷ 15 ∷ 16 ∷ [])
numbers_of (Least h) = listed_numbers ++ (14 ∷ 15 ∷ 16 ∷ [])
numbers_of Refit = check_numbers ++ (14 ∷ 15 ∷ 16 ∷ [])

-- Remove is lent no list
abbrev pub remove_numbers : List ℕ
remove_numbers = read_numbers ++ (10 ∷ 11 ∷ 12 ∷ 13 ∷ 17 ∷ 14 ∷ [])

abbrev pub IsOneOf : ℕ → List ℕ → Type 0
IsOneOf x xs = memb x xs ≡ true

abbrev pub IsNoneOf : ℕ → List ℕ → Type 0
IsNoneOf x xs = memb x xs ≡ false

-- the results beside the number, of the answer a
pub record Refused (c : Call) (i : Inputs) (a : Answer) : Type 0 where
  pub uses : IsOneOf a.number (numbers_of c)
  -- a number before any trial is the answer's; else it is one of these three
  pub before : number_before c i ≢ 0 → a.number ≡ number_before c i
  pub after : number_before c i ≡ 0 → (a.number ≡ 0) ⊎ ((a.number ≡ unroutable_no) ⊎ (a.number ≡ spent_no))
  -- "Numbers 1–14 come with every other result 0", "Numbers from 17 on come, like 1–14, with every other result 0" (02, M-100), and with 15 and
  -- 16 "width and moved are 0"
  pub trials : a.number ≢ 0 → a.number ≢ unroutable_no → a.number ≢ spent_no → a.trials ≡ 0
  pub others : a.number ≢ 0 → (a.width ≡ 0) × (a.moved ≡ 0)

-- when a call that is lent a list gives 19, and when 20 (02, M-105): the number n, on the sheet s with the list d
pub record RefusesList (s d : List ℕ) (n : ℕ) : Type 0 where
  pub list : (n ≡ list_no) ↔ (WellFormed s × (KnownItems (channels_of s) d → ⊥))
  pub repeat : (n ≡ repeat_no) ↔ (WellFormed s × KnownItems (channels_of s) d × (NoRepeat d → ⊥))

-- the widest width in use (02, M-105: "the width in use, in Least the width tried"): W; in Least, of the widths 1 to 32, the first at which it finds
-- a ticket or with which its trials are more than the budget, else the last
unfoldable pub last_width : Call → Inputs → ℕ
unfolding end_from plain_search nets connected is_dead
last_width (Route h) i = width_in i
last_width (Least h) i = end_from (search_at h i) i.budget (widths_tried - narrowest) narrowest
last_width Refit i = width_in i

-- what it is in Least, by the answer a: the width found, all 32, or the one at which the budget ran out
pub record LeastStops (h : Search) (i : Inputs) (a : Answer) : Type 0 where
  pub found : a.number ≡ 0 → last_width (Least h) i ≡ a.width
  pub none : a.number ≡ unroutable_no → last_width (Least h) i ≡ widths_tried
  -- the trials of the widths up to it are more than the budget, and those up to a smaller width are not
  pub spent : a.number ≡ spent_no → i.budget < trials_of (search_at h i) (last_width (Least h) i) narrowest
  pub before : (w : ℕ) → w < last_width (Least h) i → trials_of (search_at h i) w narrowest ≤ i.budget

-- the search o under a budget: where it is not spent, every larger budget gives its whole outcome too, and keeps what is left
abbrev pub StaysUnspent : {A : Type 0} → Outcome A → Type 0
StaysUnspent o =
    (budget larger : ℕ) → budget ≤ larger → under_budget o budget ≢ spent
    → (under_budget o budget ≡ keep o (budget - trials o)) × (under_budget o larger ≡ keep o (larger - trials o))
