-- `tracksearch::Problem::search` meets its contract: it is the search from the state with no net placed on. Assumes nothing.
use mathlib.Core.Path.{◌≡◌, ap, ◌∙◌}
use Prim.Native.Nat.{ℕ, ◌-◌}
use mathlib.Core.List.{[]}
use native.Mathlib.Omega.{arith}
use Rattle.backtracking.proofs.BudgetLaws.{from_start}
use Rattle.backtracking.specs.Facts.{from_net}
use Rattle.wires.specs.Wires.{tables_of}
use Rattle.tracksearch.specs.Plan.{search_tables, plan_fits}
use Rattle.tracksearch.proofs.StateLaws.{state-start}
use Rattle.tracksearch.proofs.Problem.search.Goals as goal

pub next_net-requires : goal.next_net-requires
next_net-requires c = record { room = omega arith; state = (c.args.marks, state-start _ _); within = c.requires }

pub returns : goal.returns
returns c =
    let p = c.args.self.now in
    let nets = tables_of p.start.now p.chan.now p.maps.now p.width in
    let fits = plan_fits (search_tables nets c.args.marks p.old.now p.limit) in
    let left = p.budget - c.args.used in
    let e : p.count - 0 ≡ p.count = omega arith in (
      c.next_net.ensures.within,
      c.next_net.ensures.same c.args.marks (state-start _ _)
          ∙ ap (λ (j : ℕ). from_net p.width fits j [] left) e
          ∙ from_start p.width fits p.count left,
    )
