-- What a run of searches under one budget starts from, and what it gives. Definitions only; laws: proofs/RanLaws.antt. Assumes nothing.
use Rattle.std.specs.Prelude.{◌≡◌, ℕ, ◌≤◌, List, [], take, length, Bool, true}
use Rattle.backtracking.specs.Search.{Outcome, backtrack}
use Rattle.backtracking.specs.Budget.{under_budget}
use Rattle.grid.specs.Grid.{Wire}
use Rattle.netlist.specs.Netlist.{width_of, nets}
use Rattle.netsearch.specs.declared.Search.{Search}
use Rattle.netsearch.specs.PlainSearch.{at_width, plain_search, least_search}
use Rattle.routing.specs.declared.Call.{Call}
use Rattle.routing.specs.declared.Call.TheVariants.{Route, Least, Refit}
use Rattle.assignment.specs.Board.{board_with}
use Rattle.assignment.specs.Facts.{assignment_number}
use Rattle.netsearch.specs.Refit.{refit_search}
use Rattle.netsearch.specs.HomeTrack.{byte_of}
use Rattle.tracksearch.specs.declared.Ended.{Ended}
use Rattle.tracksearch.specs.declared.Ended.TheVariants.{Found, Exhausted, Spent}
use Rattle.tracksearch.specs.Plan.{SearchTables, moves_from, plan_fits}
use Rattle.tracksearch.specs.State.{run_of, InBudget}
use Rattle.planner.specs.declared.Plan.{Plan}
use Rattle.writer.specs.Written.{Writable}
use Rattle.runs.specs.declared.Routed.{Routed}

-- ---- before the run

-- the number of the old assignment, which Refit alone looks at: the first of 10 to 13 and 21 that applies, where `broken v` says that the wire v is
-- broken
abbrev pub old_number : Call → List ℕ → (Wire → Bool) → List ℕ → ℕ
old_number (Route h) s broken old = 0
old_number (Least h) s broken old = 0
old_number Refit s broken old = assignment_number true (board_with s broken) (width_of s) (nets s) old

-- the search h at the width w on the sheet s, where `broken v` says that the wire v is broken
abbrev pub plain_run : Search → List ℕ → (Wire → Bool) → ℕ → Outcome (ℕ × List ℕ)
plain_run h s broken w = at_width w (plain_search h (board_with s broken) w (nets s))

-- the run of a call
abbrev pub run_on : Call → List ℕ → (Wire → Bool) → List ℕ → Outcome (ℕ × List ℕ)
run_on (Route h) s broken old = plain_run h s broken (width_of s)
run_on (Least h) s broken old = least_search h (board_with s broken) (nets s)
run_on Refit s broken old = at_width (width_of s) (refit_search (byte_of (nets s) old) (board_with s broken) (width_of s) (nets s))

-- ---- when it has ended

-- A says what holds of what was found, where something was
abbrev pub WhenFound : {T : Type 0} → Ended T → (T → Type 0) → Type 0
WhenFound (Found u x) A = A x
WhenFound (Exhausted u) A = Unit {0}
WhenFound Spent A = Unit {0}

-- what was found of n nets: the width and their home tracks
abbrev pub found_in : ℕ → Routed → ℕ × List ℕ
found_in n r = (r.width, take n r.homes)

-- one search of n nets on the tables p found this
pub record FoundOn (p : SearchTables) (n : ℕ) (r : Routed) : Type 0 where
  pub width : r.width ≡ p.nets.width
  pub maps : r.maps ≡ p.nets.maps
  pub long : n ≤ length r.homes
  pub moved : r.moved ≡ moves_from p.old r.homes n
  pub few : r.moved ≤ n

-- e is what the search gives, where `left` is left of the budget
pub record SearchedOn (p : SearchTables) (n budget left : ℕ) (e : Ended Routed) : Type 0 where
  pub within : InBudget budget e
  pub same : run_of (found_in n) budget e ≡ under_budget (at_width p.nets.width (backtrack p.nets.width (plan_fits p) n [])) left
  pub found : WhenFound e (FoundOn p n)

-- the assignment found can be written, and `moved_by` says how many nets its home tracks move
pub record FoundBy (s : List ℕ) (p : Plan) (moved_by : List ℕ → ℕ) (r : Routed) : Type 0 where
  pub writable : Writable s r.width p.start r.maps p.count r.homes
  pub moved : r.moved ≡ moved_by (take p.count r.homes)
  pub few : r.moved ≤ 64

-- e is what the run o on the plan's nets, which is without a budget, gives where `left` is left of the budget
pub record Ran (s : List ℕ) (p : Plan) (budget left : ℕ) (o : Outcome (ℕ × List ℕ)) (moved_by : List ℕ → ℕ) (e : Ended Routed) : Type 0 where
  pub within : InBudget budget e
  pub same : run_of (found_in p.count) budget e ≡ under_budget o left
  pub found : WhenFound e (FoundBy s p moved_by)
