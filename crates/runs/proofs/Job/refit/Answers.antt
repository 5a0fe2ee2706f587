-- `runs::Job::refit` meets its contract: where a channel is over capacity Refit makes no trial; else the loop's invariant is that the rounds
-- from d on are left, with what is left of the budget. Assumes nothing.
use mathlib.Core.Path.{sym, ◌∙◌}
use native.Mathlib.Omega.{arith}
use Rattle.marks.specs.Marks.{marked_in}
use Rattle.netlist.specs.Netlist.{nets}
use Rattle.netsearch.specs.HomeTrack.{byte_of}
use Rattle.routing.specs.Outcomes.{moved_by}
use Rattle.planner.proofs.PlacesLaws.{plan-own}
use Rattle.runs.proofs.RepeatedLaws.{repeated-first}
use Rattle.runs.proofs.RanLaws.{sheet_in, job-width, job-fits, ran-next, ran_ends, ran-all, ran-search}
use Rattle.runs.proofs.RoundsLaws.{old-sized, job-placed, placed-all, ran-none, ran-rounds}
use Rattle.runs.proofs.Job.refit.Goals as goal

pub is_overloaded-requires : goal.is_overloaded-requires
is_overloaded-requires c = (job-width c.args.self).2

pub returns-then-is_overloaded : goal.returns-then-is_overloaded
unfolding moved_by
returns-then-is_overloaded c = ran-none c.args.self c.args.old.now (sym c.is_overloaded.ensures ∙ c.if-is_overloaded.true)

pub invariant_of-chosen : goal.invariant_of-chosen
invariant_of-chosen c = record { places = c.args.self.ready.places }

pub old_homes-before-requires : goal.old_homes-before-requires
old_homes-before-requires c = old-sized (sheet_in c.args.self) (marked_in c.args.self.plan.now.dead) c.args.old.now c.requires

pub maps_at-maps-requires : goal.maps_at-maps-requires
maps_at-maps-requires c =
    let w = job-width c.args.self in
    record { planned = plan-own c.args.self.ready; le_w = (w.1, w.2) }

pub loop-d-init : goal.loop-d-init
loop-d-init c = repeated-first _ 0 _ _ (omega arith)

pub search_on-r-requires : goal.search_on-r-requires
search_on-r-requires c =
    let j = c.args.self in
    record { fits = job-fits j j.sheet.netlist.trailer.width _ c.maps_at-maps.ensures (job-width j).2; within = c.loop-d.invariant.within }

-- a round that ended with an assignment, or with the budget, is Refit's
pub returns-in_default : goal.returns-in_default
unfolding moved_by
returns-in_default c =
    let j = c.args.self in
    let o = c.old_homes-before in
    let round = ran-search j _ _ _ _ c.maps_at-maps.ensures (job-width j).2 c.search_on-r.ensures in
    ran-rounds j c.args.old.now c.requires o.result.homes o.ensures.0 _ c.maps_at-maps.ensures
    (sym c.is_overloaded.ensures ∙ c.if-is_overloaded.false) o.ensures.1
    (ran_ends c.loop-d.invariant (omega (arith, c.loop-d-test.true)) round c.in_default.not-Exhausted)

pub overflow_add-d-end : goal.overflow_add-d-end
overflow_add-d-end c =
    let j = c.args.self in
    let p = placed-all j c.args.old.now c.old_homes-before.ensures.1 in
    record { fits = omega (arith, job-placed j (byte_of (nets (sheet_in j)) c.args.old.now)) }

-- after a round that found nothing the next ones are left
pub loop-d-preserved : goal.loop-d-preserved
loop-d-preserved c =
    let j = c.args.self in
    let round = ran-search j _ _ _ _ c.maps_at-maps.ensures (job-width j).2 c.search_on-r.ensures in
    ran-next c.loop-d.invariant (omega (arith, c.loop-d-test.true)) round _ c.in-Exhausted.is

pub returns : goal.returns
unfolding moved_by
returns c =
    let j = c.args.self in
    let o = c.old_homes-before in
    ran-rounds j c.args.old.now c.requires o.result.homes o.ensures.0 _ c.maps_at-maps.ensures
    (sym c.is_overloaded.ensures ∙ c.if-is_overloaded.false) o.ensures.1
    (ran-all c.loop-d.invariant (omega (arith, c.loop-d-test.false)))
