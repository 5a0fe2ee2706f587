-- Where a search stands, and how it ended. Definitions only; laws: proofs/StateLaws.antt. Assumes nothing.
use Rattle.std.specs.Prelude.{◌≡◌, ℕ, ◌-◌, ◌≤◌, ◌<◌, List, take}
use Rattle.backtracking.specs.Budget.{Run, got, nothing, spent}
use Rattle.backtracking.specs.Facts.{from_net}
use Rattle.marks.specs.Marks.{held_at}
use Rattle.wires.specs.NetsOf.{nets_of}
use Rattle.tracksearch.specs.declared.Prepared.{Prepared}
use Rattle.tracksearch.specs.declared.State.{State}
use Rattle.tracksearch.specs.declared.Ended.{Ended}
use Rattle.tracksearch.specs.declared.Ended.TheVariants.{Found, Exhausted, Spent}
use Rattle.tracksearch.specs.Plan.{SearchTables, search_tables, moves_from, held_by, plan_fits}

-- the home tracks of the nets placed
abbrev pub chosen : State → List ℕ
chosen m = take m.placed m.homes

-- the state is that of the home tracks chosen: the marks are those that the search began with and their wires, moved counts their moves
pub record StateOf (p : SearchTables) (m : State) : Type 0 where
  pub marks : (c x : ℕ) → c < 480 → x < 32 → held_at m.taken c x ≡ held_by p (chosen m) c x
  pub moves : m.moved ≡ moves_from p.old (chosen m) m.placed

-- what a run gave, with what is left of the budget, where `read` says what is meant by what was found
unfoldable pub run_of : {T A : Type 0} → (T → A) → ℕ → Ended T → Run A
run_of read budget (Found u x) = got (read x) (budget - u)
run_of read budget (Exhausted u) = nothing (budget - u)
run_of read budget Spent = spent

-- the trials used are within the budget
abbrev pub InBudget : {T : Type 0} → ℕ → Ended T → Type 0
InBudget budget (Found u x) = u ≤ budget
InBudget budget (Exhausted u) = u ≤ budget
InBudget budget Spent = Unit {0}

-- the tables of a search that begins with the wires of `marks` held
abbrev pub search_of : Prepared → List ℕ → SearchTables
search_of p marks = search_tables (nets_of p.nets) marks p.old.now p.limit

-- The search goes on from the state m, where `used` trials of the budget were made, and gives r. The marks that it began with are not handed
-- on: m is the state for some of them, and whatever those are, r is what the search gives for them.
module _ (p : Prepared) (used : ℕ) (m : State) where
  pub record CanGoOn : Type 0 where
    pub room : m.placed ≤ p.count
    pub state : (marks : List ℕ) × StateOf (search_of p marks) m
    pub within : used ≤ p.budget

  pub record GoesOn (r : Ended (List ℕ)) : Type 0 where
    pub within : InBudget p.budget r
    pub same : (marks : List ℕ) → StateOf (search_of p marks) m
        → run_of (take p.count) p.budget r
        ≡ from_net p.nets.width (plan_fits (search_of p marks)) (p.count - m.placed) (chosen m) (p.budget - used)
