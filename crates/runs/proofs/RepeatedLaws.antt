-- A loop of searches under one budget, as the code makes them: Least's widths and Refit's rounds. Assumes nothing.
-- Repeated: the searches t, t + 1, … are left, and `used` trials were made. repeated-first: all of them are left. repeated-all: none is.
-- repeated-next, repeated-ends: the next one found nothing, or it did not end so.
use mathlib.Core.Path.{◌≡◌, refl, sym, ap, ◌∙◌}
use Prim.Native.Nat.{ℕ, ◌+◌, ◌-◌, ◌≤◌, ◌<◌}
use native.Mathlib.Omega.{arith}
use Rattle.backtracking.specs.Search.{Outcome}
use Rattle.backtracking.specs.Budget.{Run, got, nothing, spent, under_budget}
use Rattle.backtracking.proofs.RepeatLaws.{repeat_from, repeat-none, repeat-next, repeat-got, repeat-spent}

-- of the searches from `first` to the one before `end`, those from t on are left
pub record Repeated {A : Type 0} (next : ℕ → Outcome A) (first end budget t used : ℕ) : Type 0 where
  pub low : t ≤ end
  pub within : used ≤ budget
  pub same : repeat_from next end first budget ≡ repeat_from next end t (budget - used)

module _ {A : Type 0} (next : ℕ → Outcome A) (first end budget : ℕ) where
  pub repeated-first : first ≤ end → Repeated next first end budget first 0
  repeated-first h = record { low = h; within = omega arith; same = ap (repeat_from next end first) (omega arith) }

module _ {A : Type 0} {next : ℕ → Outcome A} {first end budget t used : ℕ} (R : Repeated next first end budget t used) where
  pub repeated-all : end ≤ t → nothing (budget - used) ≡ repeat_from next end first budget
  repeated-all h =
      let l = R.low in
      sym (R.same ∙ repeat-none next end t (budget - used) (omega arith))

  module _ (h : t < end) where
    pub repeated-next : (u : ℕ) → u ≤ budget → nothing (budget - u) ≡ under_budget (next t) (budget - used)
        → Repeated next first end budget (t + 1) u
    repeated-next u l e = record {
      low = omega arith;
      within = l;
      same = R.same ∙ repeat-next next end t (budget - used) (budget - u) h (sym e);
    }

    pub repeated-ends : (x : Run A) → ((r : ℕ) → x ≡ nothing r → ⊥)
        → x ≡ under_budget (next t) (budget - used) → x ≡ repeat_from next end first budget
    repeated-ends (got a r) n e = sym (R.same ∙ repeat-got next end t (budget - used) a r h (sym e))
    repeated-ends (nothing r) n e = absurd (n r refl)
    repeated-ends spent n e = sym (R.same ∙ repeat-spent next end t (budget - used) h (sym e))
