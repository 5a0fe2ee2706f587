-- The loop of next_track: the tracks below t have been tried, u trials are used (specs/State.antt). Assumes nothing.
-- Tried: no track yet, no track left, spent, a track that does not fit, a track that fits. Deep: what follows that track, by how the search
-- of the nets after it ended. These laws are all that the proof of the cycle uses of the search, beside `from-full`.
-- `search_of p marks` are the tables of a search that begins with those marks: each law holds whatever they are, where m is the state for
-- them.
use mathlib.Core.Path.{◌≡◌, sym, ap, ap₂, ◌∙◌}
use mathlib.Core.Bool.{Bool, true, false}
use mathlib.Core.List.{List, [], ◌∷◌, ◌++◌}
use lib.ListN.{take}
use Prim.Native.Nat.{ℕ, ◌+◌, ◌-◌, ◌≤◌, ◌<◌}
use native.Mathlib.Omega.{arith}
use Rattle.backtracking.specs.Budget.{Run, nothing, spent}
use Rattle.backtracking.proofs.BudgetLaws.{and_then, from_track, from_first, from_last, from-spent, from-skip, from_deep}
use Rattle.backtracking.specs.Facts.{from_net}
use Rattle.tracksearch.specs.declared.State.{State}
use Rattle.tracksearch.specs.declared.Prepared.{Prepared}
use Rattle.tracksearch.specs.declared.Ended.{Ended}
use Rattle.tracksearch.specs.declared.Ended.TheVariants.{Exhausted}
use Rattle.tracksearch.specs.Plan.{plan_fits}
use Rattle.tracksearch.specs.State.{chosen, StateOf, search_of, run_of, InBudget}
use Rattle.tracksearch.proofs.StateLaws.{after-exhausted, after-end, exhausted-within}

module _ (p : Prepared) where
  -- the tracks that fit, where the search began with the wires of `marks` held
  abbrev pub fits_on : List ℕ → List ℕ → ℕ → Bool
  fits_on marks = plan_fits (search_of p marks)

  -- the search from m on, and that of its tracks from t on, with b left of the budget
  abbrev pub whole : List ℕ → ℕ → State → Run (List ℕ)
  whole marks b m = from_net p.nets.width (fits_on marks) (p.count - m.placed) (chosen m) b

  abbrev pub rest : List ℕ → State → ℕ → ℕ → Run (List ℕ)
  rest marks m t b = from_track p.nets.width (fits_on marks) (p.count - m.placed) (chosen m) t b

pub record Tried (p : Prepared) (used : ℕ) (m : State) (t u : ℕ) : Type 0 where
  pub within : u ≤ p.budget
  pub same : (marks : List ℕ) → StateOf (search_of p marks) m → whole p marks (p.budget - used) m ≡ rest p marks m t (p.budget - u)

-- the search from m on is what r gave for the track t, and then the tracks after it
pub record Deep (p : Prepared) (used : ℕ) (m : State) (t : ℕ) (r : Ended (List ℕ)) : Type 0 where
  pub same : (marks : List ℕ) → StateOf (search_of p marks) m
      → whole p marks (p.budget - used) m ≡ and_then (run_of (take p.count) p.budget r) (rest p marks m (t + 1))

module _ {p : Prepared} {used : ℕ} {m : State} where
  pub tried-none : m.placed < p.count → used ≤ p.budget → Tried p used m 0 used
  tried-none h l = record {
    within = l;
    same = λ marks s. from_first p.nets.width (fits_on p marks) (p.count - m.placed) (chosen m) (p.budget - used) (omega arith);
  }

  module _ {t u : ℕ} (tried : Tried p used m t u) where
    pub tried-all : t ≤ p.nets.width → p.nets.width ≤ t
        → (marks : List ℕ) → StateOf (search_of p marks) m → nothing (p.budget - u) ≡ whole p marks (p.budget - used) m
    tried-all l h marks s =
        let e : t ≡ p.nets.width = omega arith in
        sym (tried.same marks s ∙ from_last p.nets.width (fits_on p marks) (p.count - m.placed) (chosen m) t (p.budget - u) e)

    pub tried-spent : t < p.nets.width → u ≡ p.budget
        → (marks : List ℕ) → StateOf (search_of p marks) m → spent ≡ whole p marks (p.budget - used) m
    tried-spent h e marks s =
        sym (tried.same marks s ∙ from-spent p.nets.width (fits_on p marks) (p.count - m.placed) (chosen m) t (p.budget - u) h (omega arith))

    one_less : p.budget - u - 1 ≡ p.budget - (u + 1)
    one_less = omega arith

    module _ (low : t < p.nets.width) (more : u ≡ p.budget → ⊥) where
      left : u < p.budget
      left = omega (arith, tried.within)

      pub tried-skip : ((marks : List ℕ) → StateOf (search_of p marks) m → fits_on p marks (chosen m) t ≡ false)
          → Tried p used m (t + 1) (u + 1)
      tried-skip e = record {
        within = omega (arith, left);
        same = λ marks s.
            tried.same marks s
            ∙ from-skip p.nets.width (fits_on p marks) (p.count - m.placed) (chosen m) t (p.budget - u) low (omega (arith, left)) (e marks s)
            ∙ ap (rest p marks m (t + 1)) one_less;
      }

      -- r is what the search from the next state on gave
      pub tried-deep :
          ((marks : List ℕ) → StateOf (search_of p marks) m → fits_on p marks (chosen m) t ≡ true)
          → (next : State) → next.placed ≡ m.placed + 1 → chosen next ≡ chosen m ++ (t ∷ [])
          → (r : Ended (List ℕ))
          → ((marks : List ℕ) → StateOf (search_of p marks) m
          → run_of (take p.count) p.budget r ≡ whole p marks (p.budget - (u + 1)) next)
          → Deep p used m t r
      tried-deep e next d g r q =
          let c : p.count - m.placed - 1 ≡ p.count - next.placed = omega arith in
          record {
            same = λ marks s.
                let fits = fits_on p marks in
                tried.same marks s
                ∙ from_deep p.nets.width fits (p.count - m.placed) (chosen m) t (p.budget - u) low (omega (arith, left)) (e marks s)
                ∙ ap (λ (x : Run (List ℕ)). and_then x (rest p marks m (t + 1)))
                (ap (from_net p.nets.width fits (p.count - m.placed - 1) (chosen m ++ (t ∷ []))) one_less
                ∙ ap₂ (λ (j : ℕ) (y : List ℕ). from_net p.nets.width fits j y (p.budget - (u + 1))) c (sym g)
                ∙ sym (q marks s));
          }

  module _ {t : ℕ} {r : Ended (List ℕ)} (deep : Deep p used m t r) where
    -- the tracks after t are not looked at
    pub deep-end : ((u : ℕ) → r ≡ Exhausted u → ⊥)
        → (marks : List ℕ) → StateOf (search_of p marks) m → run_of (take p.count) p.budget r ≡ whole p marks (p.budget - used) m
    deep-end e marks s = sym (deep.same marks s ∙ after-end (take p.count) p.budget (rest p marks m (t + 1)) r e)

    pub deep-exhausted : (u : ℕ) → r ≡ Exhausted u → InBudget p.budget r → Tried p used m (t + 1) u
    deep-exhausted u e l = record {
      within = exhausted-within p.budget u r e l;
      same = λ marks s. deep.same marks s ∙ after-exhausted (take p.count) p.budget (rest p marks m (t + 1)) r u e;
    }
