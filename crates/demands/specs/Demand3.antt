-- Promises of relistings, of "unroutable" and of budgets (00, demand 3). Definitions only; that they hold: proofs/Demand3.antt. Assumes nothing.
use Rattle.std.specs.Prelude.{◌≡◌, ◌≢◌, ℕ, ◌≤◌, List, length}
use Rattle.numbers.specs.Numbers.{unroutable_no, spent_no}
use Rattle.backtracking.specs.Search.{Outcome}
use Rattle.netlist.specs.Netlist.{WellFormed, nets}
use Rattle.defects.specs.Defects.{SameItems, SameBelow}
use Rattle.assignment.specs.Check.{check_of}
use Rattle.routing.specs.Equivalent.{Equivalent, SameBytes, SameLegal, Relisting, SameOutcome, SameButWidth}
use Rattle.routing.specs.Outcomes.{Inputs, with_budget, with_sheet, width_in, search_at, answer_of, output_of, old_byte, board_in, nets_in}
use Rattle.routing.specs.Results.{Unroutable, StaysUnspent}
use Rattle.switchbox.specs.SwitchBox.{max_width}
use Rattle.net.specs.Nets.{entry_count}
use Rattle.netsearch.specs.declared.Search.{Search}
use Rattle.netsearch.specs.Refit.{refit_search}
use Rattle.routing.specs.declared.Call.{Call}
use Rattle.routing.specs.declared.Call.TheVariants.{Route, Least, Refit}

-- the widths that a call's answer speaks of: "width is then W (Least: the width found)", "from 1 to 32", 01
abbrev pub WidthFor : Call → Inputs → ℕ → Type 0
WidthFor (Route h) i w = w ≡ width_in i
WidthFor (Least h) i w = (1 ≤ w) × (w ≤ max_width)
WidthFor Refit i w = w ≡ width_in i

pub record Demand3 : Type 1 where
  -- ---- asked for

  -- "For every accepted sheet, every accepted relisting of it and every budget, given equal old tracks and enough space, Route, Least and
  -- Refit give the same verdict, width, trial count and move count on the two, and the same track for each net in each of its channels";
  -- "relistings are compared under the same list", 02, M-105
  pub relisted : (c : Call) (i j : Inputs) → Relisting c i j → SameOutcome i j (answer_of c i) (answer_of c j) (output_of c i) (output_of c j)
  -- "Relisting and budgets are proved of the calls' own answers and of right tickets and the plain search alike", 01: of legal assignments, of the
  -- plain search and of Refit's rounds, with the same dead wires below the width: "Items at or above the width in use, in Least the width tried, are
  -- ignored", 02, M-105
  pub legal_relisted : (i j : Inputs) → Equivalent i.sheet j.sheet → (w : ℕ) → SameBelow w i.dead j.dead → SameLegal i j w
  pub search_relisted : (i j : Inputs) → Equivalent i.sheet j.sheet → (h : Search) (w : ℕ) → SameBelow w i.dead j.dead
      → search_at h i w ≡ search_at h j w
  pub rounds_relisted : (i j : Inputs) → Equivalent i.sheet j.sheet → SameBytes i.sheet j.sheet i.old j.old → (w : ℕ)
      → SameBelow w i.dead j.dead → refit_search (old_byte i) (board_in i) w (nets_in i) ≡ refit_search (old_byte j) (board_in j) w (nets_in j)
  -- 'Nobody who was told "unroutable" can write a right ticket for that sheet at that width, whatever bytes he chooses, or at any width from
  -- 1 to 32 where the least was wanted.'
  pub unroutable : (c : Call) (i : Inputs) → (answer_of c i).number ≡ unroutable_no → (w : ℕ) → WidthFor c i w → Unroutable i w
  -- Least "reads no W but the check on it", 01
  pub least_any_width : (h : Search) (i : Inputs) (t : List ℕ) → WellFormed i.sheet → WellFormed t → SameButWidth i.sheet t
      → (answer_of (Least h) i ≡ answer_of (Least h) (with_sheet i t)) × (output_of (Least h) i ≡ output_of (Least h) (with_sheet i t))
  -- 'However far the budget is raised, any verdict but "spent" stays, and with it the width, both counts and every byte of the output.'
  pub budget : (c : Call) (i : Inputs) (larger : ℕ) → i.budget ≤ larger → (answer_of c i).number ≢ spent_no
      → (answer_of c (with_budget i larger) ≡ answer_of c i) × (output_of c (with_budget i larger) ≡ output_of c i)
  -- the same of any search: the plain one, Least's widths, Refit's rounds
  pub search_budget : {A : Type 0} (o : Outcome A) → StaysUnspent o
  -- ---- ours

  -- Check's number of tickets with the same byte for each net number and channel, on relistings under the same list
  pub check_relisted : (s t : List ℕ) → Equivalent s t → (d e : List ℕ) → SameItems d e → (a b : List ℕ) → SameBytes s t a b
      → length a ≡ entry_count (nets s) → length b ≡ entry_count (nets t) → check_of s d a ≡ check_of t e b
