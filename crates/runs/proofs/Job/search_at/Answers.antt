-- `runs::Job::search_at` meets its contract: where a channel is over capacity the plain search makes no trial; else it is the search on the
-- tables of the width, where no net had a home track. Assumes nothing.
use mathlib.Core.Path.{sym, ◌∙◌}
use native.Mathlib.Omega.{arith}
use lib.ListN.{get_or-replicate}
use Rattle.planner.proofs.PlacesLaws.{plan-own}
use Rattle.runs.proofs.RanLaws.{job-fits, ran_over, ran-plain}
use Rattle.runs.proofs.Job.search_at.Goals as goal

pub is_overloaded-requires : goal.is_overloaded-requires
is_overloaded-requires c = omega (arith, c.requires.le_w.1)

pub returns-then-is_overloaded : goal.returns-then-is_overloaded
returns-then-is_overloaded c = ran_over c.args.w c.args.used c.requires.within (omega arith) c.args.h (sym c.is_overloaded.ensures ∙ c.if-is_overloaded.true)

pub maps_at-maps-requires : goal.maps_at-maps-requires
maps_at-maps-requires c = record { planned = plan-own c.args.self.ready; le_w = c.requires.le_w }

pub search_on-requires : goal.search_on-requires
search_on-requires c = record { fits = job-fits c.args.self c.args.w _ c.maps_at-maps.ensures c.requires.le_w.1; within = c.requires.within }

pub returns : goal.returns
returns c =
    ran-plain c.args.self c.args.w _ _ 0 c.maps_at-maps.ensures c.requires.le_w.1 c.search_on.ensures
    c.args.h (sym c.is_overloaded.ensures ∙ c.if-is_overloaded.false)
    (λ k h. get_or-replicate 64 k 255 0 h)
