-- Where a run through several searches ends under one budget (01 "Trials"; 02, M-105 "the width tried"). Definitions only; laws:
-- proofs/EndLaws.antt. Assumes nothing.
use Prim.Native.Nat.{ℕ, zero, suc, ◌+◌}
use Rattle.std.specs.Prelude.{Bool, ◌||◌}
use Rattle.std.proofs.Math.Bool.{true, false}
use Rattle.std.proofs.Math.Dec.{ltb}
use Rattle.backtracking.specs.Search.{Outcome, found, not_found, trials}

module _ {A : Type 0} where
  abbrev pub is_found : Outcome A → Bool
  is_found (found a n) = true
  is_found (not_found n) = false

  -- the trials of `next t`, `next (t + 1)`, …, k of them, together
  unfoldable pub trials_of : (ℕ → Outcome A) → ℕ → ℕ → ℕ
  trials_of next zero t = 0
  trials_of next (suc k) t = trials (next t) + trials_of next k (suc t)

  module _ (next : ℕ → Outcome A) (budget : ℕ) where
    -- the run through `next 1`, `next 2`, … goes no further than `next w`: it finds something, or the trials so far are more than the budget
    unfoldable pub ends_at : ℕ → Bool
    unfolding trials_of
    ends_at w = is_found (next w) || ltb budget (trials_of next w 1)

    -- the first from t on where it ends; k further on, where it ends at none of the k before
    unfoldable pub end_from : ℕ → ℕ → ℕ
    unfolding ends_at
    end_from zero t = t
    end_from (suc k) t = elim (ends_at t) [ true ↦ t | false ↦ end_from k (suc t) ]
