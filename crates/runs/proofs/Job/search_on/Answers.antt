-- `runs::Job::search_on` meets its contract: what the search gives, with the moves counted. Assumes nothing.
use mathlib.Core.Path.{refl}
use native.Mathlib.Omega.{arith}
use Rattle.tracksearch.specs.declared.Ended.TheVariants.{Found, Exhausted, Spent}
use Rattle.tracksearch.specs.State.{run_of}
use Rattle.runs.specs.declared.Routed.{Routed}
use Rattle.runs.proofs.RanLaws.{run_at, searched-same}
use Rattle.runs.proofs.Job.search_on.Goals as goal

pub returns-in-Found : goal.returns-in-Found
unfolding run_of run_at
returns-in-Found c =
    let s = rw c.in-Found.is at c.search.ensures in
    let m = c.count_moves-moved.ensures in
    let u = c.in-Found.u in
    let r : Routed =
    record { width = c.args.w; homes = c.in-Found.homes; maps = c.args.maps.now; moved = c.count_moves-moved.result }
    in
    record {
      within = s.0;
      same = searched-same _ _ c.args.self.budget _ (Found u c.in-Found.homes) (Found u r) refl s.1;
      found = record { width = refl; maps = refl; long = omega arith; moved = m.0; few = m.1 };
    }

pub returns-in-Exhausted : goal.returns-in-Exhausted
unfolding run_of run_at
returns-in-Exhausted c =
    let s = rw c.in-Exhausted.is at c.search.ensures in
    let u = c.in-Exhausted.u in
    record { within = s.0; same = searched-same _ _ c.args.self.budget _ (Exhausted u) (Exhausted u) refl s.1; found = tt }

pub returns-in-Spent : goal.returns-in-Spent
unfolding run_of run_at
returns-in-Spent c =
    let s = rw c.in-Spent.is at c.search.ensures in
    record { within = s.0; same = searched-same _ _ c.args.self.budget _ Spent Spent refl s.1; found = tt }
