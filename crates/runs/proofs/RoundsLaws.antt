-- Refit's rounds on the tables of an accepted sheet (01 "Trials"). Assumes nothing.
-- old_number: an old assignment that no number refuses has a byte for each entry. routed_count: at most the number of nets.
-- Job: at most 64 nets are placed; the rounds on the tables are Refit's, and the moves counted by them are those of 01.
use mathlib.Core.Path.{◌≡◌, sym, ap, subst, ◌∙◌}
use mathlib.Core.Bool.{Bool, true, false}
use mathlib.Core.List.{List, [], ◌∷◌}
use Prim.Native.Nat.{ℕ, suc, ◌+◌, ◌-◌, ◌≤◌}
use native.Mathlib.Omega.{arith}
use borrow.Author.Tests.{eqb-true, not-false}
use lib.ListN.{length}
use Rattle.backtracking.specs.Search.{Outcome, backtrack, first_of}
use Rattle.numbers.specs.Numbers.{size_no, track_no}
use Rattle.numbers.proofs.NumbersLaws.{condition_of}
use Rattle.grid.specs.Grid.{Wire}
use Rattle.marks.specs.Marks.{marked_in}
use Rattle.net.specs.Net.{Net}
use Rattle.net.specs.Nets.{entry_count}
use Rattle.netlist.specs.Netlist.{width_of, nets, connected_on}
use Rattle.netlist.proofs.NetlistLaws.{readable-width}
use Rattle.rank.specs.Rank.{one_if, tally}
use Rattle.rank.specs.Facts.{rising_nets}
use Rattle.rank.proofs.OrderLaws.{rising-length}
use Rattle.assignment.specs.Assignment.{wrong_size, track_out_of_range, ticket_conditions}
use Rattle.assignment.specs.Board.{board_with}
use Rattle.assignment.proofs.AssignmentLaws.{number-clear}
use Rattle.netsearch.specs.HomeTrack.{byte_of}
use Rattle.netsearch.specs.PlainSearch.{over_capacity, at_width}
use Rattle.netsearch.specs.Refit.{is_routed, moves_in, routed_count, round_count, refit_search}
use Rattle.routing.specs.declared.Call.TheVariants.{Refit}
use Rattle.wires.specs.Wires.{tables_of}
use Rattle.tracksearch.specs.declared.Ended.{Ended}
use Rattle.tracksearch.specs.declared.Ended.TheVariants.{Exhausted}
use Rattle.tracksearch.specs.Plan.{search_tables, moves_from, plan_fits}
use Rattle.planner.specs.declared.Plan.{Plan}
use Rattle.planner.specs.Planned.{Mapped, OldHomes, plan_nets}
use Rattle.planner.proofs.FitsLaws.{HomesReal, moves_from-moves}
use Rattle.planner.proofs.OldHomeLaws.{routed_count-rising}
use Rattle.planner.proofs.RunLaws.{rising-own, in_range-real, refit-over, refit-within}
use Rattle.runs.specs.declared.Routed.{Routed}
use Rattle.runs.specs.declared.Job.{Job}
use Rattle.runs.specs.Runs.{Ran, old_number, run_on}
use Rattle.runs.proofs.RanLaws.{sheet_in, at_width-first, job-count, job-width, job-prepared, ran-as, ran-stopped}

-- ---- old_number

module _ (s : List ℕ) (dead : Wire → Bool) (old : List ℕ) (e : old_number Refit s dead old ≡ 0) where
  -- the condition of each of the numbers 10 to 13 and 21
  condition : (x : ℕ) → condition_of x (ticket_conditions true (board_with s dead) (width_of s) (nets s) old) ≡ false
  condition = number-clear true (board_with s dead) (width_of s) (nets s) old e

  pub old-sized : length old ≡ entry_count (nets s)
  unfolding wrong_size
  old-sized = eqb-true (length old) (entry_count (nets s)) (not-false _ (condition size_no))

  old-clear : track_out_of_range true (width_of s) (nets s) old ≡ false
  old-clear = condition track_no

-- ---- routed_count

routed_count-le : (old : ℕ → ℕ → ℕ) (ns : List Net) → routed_count old ns ≤ length ns
unfolding routed_count tally
routed_count-le old [] = omega arith
routed_count-le old (n ∷ ns) = at (is_routed old n) (routed_count-le old ns)
  where
    at : (b : Bool) → tally (is_routed old) ns ≤ length ns → one_if b + tally (is_routed old) ns ≤ suc (length ns)
    at true h = omega arith
    at false h = omega arith

-- ---- Job

-- round d on the tables: at most d of the n nets move
abbrev pub round_on : Plan → (maps homes : List ℕ) (w n d : ℕ) → Outcome (ℕ × List ℕ)
round_on p maps homes w n d =
    at_width w (backtrack w (plan_fits (search_tables (tables_of p.start p.chan maps w) p.dead homes d)) n [])

module _ (j : Job) where
  abbrev s : List ℕ
  s = sheet_in j

  abbrev p : Plan
  p = j.plan.now

  -- the wires that the plan's marks have
  abbrev dead : Wire → Bool
  dead = marked_in p.dead

  pub job-placed : (old : ℕ → ℕ → ℕ) → routed_count old (nets s) ≤ 64
  job-placed old = let n = job-count j in omega (arith, routed_count-le old (nets s))

  -- the plan's nets that are placed are all that are
  pub placed-all : (old : List ℕ) {placed : ℕ} → placed ≡ routed_count (byte_of (nets s) old) (plan_nets s p)
      → placed ≡ routed_count (byte_of (nets s) old) (nets s)
  placed-all old q = q ∙ ap (routed_count (byte_of (nets s) old)) j.ready.nets ∙ routed_count-rising (byte_of (nets s) old) (nets s)

  -- no round is made where a channel is over capacity
  pub ran-none : (old : List ℕ) {f : List ℕ → ℕ} → over_capacity (board_with s dead) j.sheet.netlist.trailer.width (nets s) ≡ true
      → Ran s p j.budget j.budget (run_on Refit s dead old) f (Exhausted 0)
  ran-none old over =
      let w = (job-width j).0 in
      ran-stopped (width_of s) 0 (omega arith) (omega arith) (refit_search (byte_of (nets s) old) (board_with s dead) (width_of s) (nets s))
      (refit-over (board_with s dead) (width_of s) (nets s) (subst (λ (v : ℕ). over_capacity (board_with s dead) v (nets s) ≡ true) w over)
      (byte_of (nets s) old))

  module _ (old : List ℕ) (e : old_number Refit s dead old ≡ 0) (homes : List ℕ) (H : OldHomes (byte_of (nets s) old) (plan_nets s p) homes) where
    had : OldHomes (byte_of (nets s) old) (rising_nets s) homes
    had = subst (λ (ns : List Net). OldHomes (byte_of (nets s) old) ns homes) j.ready.nets H

    real : HomesReal (byte_of (nets s) old) (rising_nets s)
    real =
        let w = readable-width j.sheet.netlist.readable in
        in_range-real s j.sheet.accepted (rising_nets s) (rising-own s j.sheet.accepted) (width_of s) old (omega arith) (old-sized s dead old e) (old-clear s dead old e)

    -- the rounds on the tables are Refit's
    rounds : (w : ℕ) (maps : List ℕ) → Mapped (connected_on s w) w (plan_nets s p) p.start maps
        → over_capacity (board_with s dead) w (nets s) ≡ false
        → first_of (round_on p maps homes w p.count) (round_count (byte_of (nets s) old) (nets s)) 0 ≡ at_width w (refit_search (byte_of (nets s) old) (board_with s dead) w (nets s))
    rounds w maps T within =
        let k = round_count (byte_of (nets s) old) (nets s) in
        ap (λ (n : ℕ). first_of (round_on p maps homes w n) k 0) (job-count j).0
        ∙ at_width-first w _ k 0
        ∙ ap (at_width w)
        (sym (refit-within (board_with s dead) w (nets s) p.dead within p.start p.chan maps homes (job-prepared j w maps T)
        (byte_of (nets s) old) had real))

    -- the moves of the home tracks found, by the table of the old ones
    moves : (hs : List ℕ) → length hs ≡ p.count → moves_from homes hs p.count ≡ moves_in (byte_of (nets s) old) (rising_nets s) hs
    moves hs h =
        let n = (job-count j).0 in
        let l = rising-length (nets s) in
        ap (moves_from homes hs) (sym h)
        ∙ moves_from-moves (rising_nets s) homes (byte_of (nets s) old) had real hs (omega arith)

    pub ran-rounds : {placed : ℕ} {x : Ended Routed} (maps : List ℕ) → let w = j.sheet.netlist.trailer.width in Mapped (connected_on s w) w (plan_nets s p) p.start maps
        → over_capacity (board_with s dead) w (nets s) ≡ false
        → placed ≡ routed_count (byte_of (nets s) old) (plan_nets s p)
        → Ran s p j.budget j.budget (first_of (round_on p maps homes w p.count) (placed + 1 - 0) 0) (λ hs. moves_from homes hs p.count) x
        → Ran s p j.budget j.budget (run_on Refit s dead old) (moves_in (byte_of (nets s) old) (rising_nets s)) x
    ran-rounds {placed} maps T within q =
        let w = j.sheet.netlist.trailer.width in
        let z = placed-all old q in
        let c : placed + 1 - 0 ≡ round_count (byte_of (nets s) old) (nets s) = omega arith in
        ran-as
        (ap (λ (k : ℕ). first_of (round_on p maps homes w p.count) k 0) c
        ∙ rounds w maps T within
        ∙ ap (λ (w : ℕ). at_width w (refit_search (byte_of (nets s) old) (board_with s dead) w (nets s))) (job-width j).0)
        moves
