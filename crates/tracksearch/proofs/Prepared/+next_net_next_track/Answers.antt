-- `tracksearch::Prepared::next_net` and `tracksearch::Prepared::next_track` meet their contracts. The loop's invariant is `Tried`: the search
-- from the state s on, with which next_track is entered, is that of its tracks from t on, with what is left of the budget; and `Restored`:
-- between two tracks the marks and the home tracks are those of s again. The remaining net-track pairs fall. Assumes nothing.
use mathlib.Core.Path.{◌≡◌, refl, sym, ap, ◌∙◌}
use mathlib.Core.Bool.{Bool, true, false}
use mathlib.Core.List.{List, [], ◌∷◌, ◌++◌}
use Prim.Native.Nat.{ℕ, ◌+◌, ◌-◌, ◌≤◌, ◌<◌}
use native.Mathlib.Omega.{arith}
use lib.ListN.{take, set}
use Rattle.std.proofs.Common.{rules}
use Rattle.backtracking.specs.Budget.{got}
use Rattle.backtracking.proofs.BudgetLaws.{from-full}
use Rattle.wires.specs.Wires.{free_in, laid, LaidOn}
use Rattle.tracksearch.specs.declared.State.{State}
use Rattle.tracksearch.specs.declared.Prepared.{Prepared}
use Rattle.tracksearch.specs.declared.Ended.{Ended}
use Rattle.wires.specs.NetsOf.{nets_of}
use Rattle.tracksearch.specs.Plan.{move_from}
use Rattle.tracksearch.specs.State.{chosen, StateOf, search_of, run_of, CanGoOn, GoesOn}
use Rattle.tracksearch.proofs.PlanLaws.{moves_from-le}
use Rattle.tracksearch.proofs.StateLaws.{chosen_more, plan_fits-held, plan_fits-far, plan_fits-free}
use Rattle.tracksearch.proofs.StateLaws.{state-more, Restored, restored-again, pairs-fall}
use Rattle.tracksearch.proofs.TriedLaws.{Tried, tried-none, tried-all, tried-spent, tried-skip, tried-deep}
use Rattle.tracksearch.proofs.TriedLaws.{Deep, deep-end, deep-exhausted}
use Rattle.tracksearch.proofs.Prepared.+next_net_next_track.Goals as goal
use Rattle.tracksearch.proofs.Prepared.+next_net_next_track.Goals.{
  next_track-then-is_free+then-moved-limit+in-Exhausted,
  next_track-then-is_free+else-moved-limit,
  next_track-else-is_free,
}

-- ---- next_track in plain variables: it is entered from the state s
module _ {p : Prepared} {used : ℕ} {s : State} (on : CanGoOn p used s) (room : s.placed < p.count) where
  low : s.placed < 64
  low = omega (arith, p.fits.count)

  moves-fit : s.moved ≤ s.placed
  moves-fit = omega (arith, on.state.1.moves, moves_from-le p.old.now (chosen s) s.placed)

  -- a pass at the track t: m is the state between two tracks, u trials were made before; f is what `is_free` found
  module _
      {m : State} {t u : ℕ} (r : Restored s m) (i : Tried p used s t u) (below : t < p.nets.width) (more : u ≡ p.budget → ⊥)
      {f : Bool} (found : f ≡ free_in (nets_of p.nets) m.taken s.placed t) where
    is_open : {b : Bool} → f ≡ b → free_in (nets_of p.nets) s.taken s.placed t ≡ b
    is_open e = ap (λ (x : List ℕ). free_in (nets_of p.nets) x s.placed t) (sym r.marks) ∙ sym found ∙ e

    -- a wire is held
    held : f ≡ false → Tried p used s (t + 1) (u + 1)
    held e =
        tried-skip i below more
        (λ marks st. plan_fits-held (search_of p marks) p.count s p.fits room st r.entered.0 t below (is_open e))

    -- the wires are free; v is what `move_of` found
    module _ (e : f ≡ true) {v : ℕ} (move : v ≡ move_from p.old.now s.placed t) where
      -- too many moves
      far : p.limit < s.moved + v → Tried p used s (t + 1) (u + 1)
      far h =
          tried-skip i below more
          (λ marks st. plan_fits-far (search_of p marks) p.count s p.fits room st r.entered.0 t below (is_open e) (omega (arith, move)))

      -- the wires of the net are laid on the marks of the state that it is entered with
      module _ {taken : List ℕ} (lay : taken ≡ laid (nets_of p.nets) m.taken s.placed t) where
        laid_on : LaidOn (nets_of p.nets) s.taken taken s.placed t
        laid_on = record {
          long = r.entered.1;
          is_free = is_open e;
          marks = lay ∙ ap (λ (x : List ℕ). laid (nets_of p.nets) x s.placed t) r.marks;
        }

        -- the state with the net placed, which the search goes on from
        abbrev next : State
        next = record { taken = taken; homes = set m.homes s.placed t; placed = m.placed; moved = s.moved + v }

        -- its home tracks are those of the state that it is entered with, and the track
        placed-more : chosen next ≡ chosen s ++ (t ∷ [])
        placed-more =
            ap (λ (j : ℕ). take j (set m.homes s.placed t)) r.placed ∙ chosen_more s m.homes t r.long low r.homes

        state-next : (marks : List ℕ) → StateOf (search_of p marks) s → StateOf (search_of p marks) next
        state-next marks st =
            state-more (search_of p marks) s next t r.entered.0 r.entered.1 low st (p.fits.each s.placed room) (is_open e) laid_on.marks r.placed
            placed-more
            (ap (λ (x : ℕ). s.moved + x) move)

        can-go-on : CanGoOn p (u + 1) next
        can-go-on = record {
          room = omega (arith, r.placed);
          state = (on.state.0, state-next on.state.0 on.state.1);
          within = omega (arith, i.within);
        }

        -- the search is what the nets after the track gave, and then the tracks after it
        deep : s.moved + v ≤ p.limit → {w : Ended (List ℕ)} → GoesOn p (u + 1) next w → Deep p used s t w
        deep few {w} g =
            tried-deep i below more
            (λ marks st. plan_fits-free (search_of p marks) p.count s p.fits room st r.entered.0 t below (is_open e) (omega (arith, move)))
            next
            r.placed
            placed-more
            w
            (λ marks st. g.same marks (state-next marks st))

-- ---- next_net

pub next_net-returns-then-m-self : goal.next_net-returns-then-m-self
unfolding run_of
next_net-returns-then-m-self t c =
    let m = c.args.m in
    let p = c.args.self.now in
    record {
      within = c.requires.within;
      same = λ marks st.
          ap (λ (k : ℕ). got (take k m.homes) (p.budget - c.args.used)) (sym c.if-m-self.true)
          ∙ sym (from-full p.nets.width _ (p.count - m.placed) (chosen m) (p.budget - c.args.used) (omega arith));
    }

-- ---- next_track

pub next_track-loop-t-init : goal.next_track-loop-t-init
next_track-loop-t-init t c =
    (search rules, tried-none c.requires.1 c.requires.0.within)

pub next_track-returns-then-spent-budget : goal.next_track-returns-then-spent-budget
unfolding run_of
next_track-returns-then-spent-budget t c =
    record { within = tt; same = tried-spent c.loop-t.invariant.1 c.loop-t-test.true c.if-spent-budget.true }

pub next_track-overflow_add-moved : goal.next_track-overflow_add-moved
next_track-overflow_add-moved t c =
    let p = c.requires in
    record { fits = omega (arith, low p.0 p.1, moves-fit p.0 p.1, c.move_of.ensures.1) }

pub next_track-next_net-r-requires : goal.next_track-next_net-r-requires
next_track-next_net-r-requires t c =
    let a = c.args in
    let p = c.requires in
    let l = c.loop-t in
    let below = c.loop-t-test.true in (
      omega (arith, c.decreases, pairs-fall a.self.now.count a.m.placed l.m.placed a.self.now.nets.width l.t l.invariant.0.placed p.1 below),
      can-go-on p.0 p.1 l.invariant.0 l.invariant.1 below c.if-spent-budget.false c.is_free.ensures c.if-is_free.true
          c.move_of.ensures.0
          c.lay.ensures,
    )

pub next_track-returns-in_default : goal.next_track-returns-in_default
next_track-returns-in_default t c =
    let p = c.requires in
    let l = c.loop-t in
    let d =
    deep p.0 p.1 l.invariant.0 l.invariant.1 c.loop-t-test.true c.if-spent-budget.false c.is_free.ensures
    c.if-is_free.true
    c.move_of.ensures.0
    c.lay.ensures
    c.if-moved-limit.true
    c.next_net-r.ensures in
    record { within = c.next_net-r.ensures.within; same = deep-end d c.in_default.not-Exhausted }

pub next_track-loop-t-preserved : goal.next_track-loop-t-preserved
next_track-loop-t-preserved t c =
    let p = c.requires in
    let l = c.loop-t in
    let r = l.invariant.0 in
    let i = l.invariant.1 in
    let below = c.loop-t-test.true in
    let more = c.if-spent-budget.false in
    elim c.if-is_free.branch [
      -- the nets after it have no track left
      | next_track-then-is_free+then-moved-limit+in-Exhausted w ↦
          let e = w.if-is_free.true in
          let on = laid_on p.0 p.1 r i below more c.is_free.ensures e w.move_of.ensures.0 w.lay.ensures in
          let d =
          deep p.0 p.1 r i below more c.is_free.ensures e w.move_of.ensures.0 w.lay.ensures w.if-moved-limit.true
          w.next_net-r.ensures in
          rw (w.m-is, w.spent-is) (
            restored-again _ l.t r (w.unlay.ensures c.args.m.taken on) refl refl,
            deep-exhausted d _ w.in-Exhausted.is w.next_net-r.ensures.within,
          )
      -- too many moves
      | next_track-then-is_free+else-moved-limit w ↦
          rw (w.m-is, w.spent-is) (
            r,
            far p.0 p.1 r i below more c.is_free.ensures w.if-is_free.true w.move_of.ensures.0 w.if-moved-limit.false,
          )
      -- a wire is held
      | next_track-else-is_free w ↦
          rw (w.m-is, w.spent-is) (r, held p.0 p.1 r i below more c.is_free.ensures w.if-is_free.false)
    ]

pub next_track-returns : goal.next_track-returns
unfolding run_of
next_track-returns t c =
    let i = c.loop-t.invariant.1 in
    record { within = i.within; same = tried-all i c.loop-t.auto.t-end c.loop-t-test.false }
