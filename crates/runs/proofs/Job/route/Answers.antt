-- `runs::Job::route` meets its contract: it is the search at the sheet's width, under the whole budget. Assumes nothing.
use mathlib.Core.Path.{◌≡◌, refl, subst, ap}
use Prim.Native.Nat.{ℕ, ◌-◌}
use native.Mathlib.Omega.{arith}
use Rattle.marks.specs.Marks.{marked_in}
use Rattle.runs.specs.Runs.{plain_run, Ran}
use Rattle.runs.proofs.RanLaws.{sheet_in, job-width, ran-as}
use Rattle.runs.proofs.Job.route.Goals as goal

pub search_at-requires : goal.search_at-requires
search_at-requires c = let w = job-width c.args.self in record { within = omega arith; le_w = (omega (arith, w.1), omega (arith, w.2)) }

pub returns : goal.returns
returns c =
    let j = c.args.self in
    let s = sheet_in j in
    let dead = marked_in j.plan.now.dead in
    let w = j.sheet.netlist.trailer.width in
    let z : j.budget - 0 ≡ j.budget = omega arith in
    ran-as (ap (plain_run c.args.h s dead) (job-width j).0) (λ hs h. refl)
    (subst (λ (b : ℕ). Ran s j.plan.now j.budget b (plain_run c.args.h s dead w) (λ hs. 0) c.search_at.result) z c.search_at.ensures)
