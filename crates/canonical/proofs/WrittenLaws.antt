-- The channels of a canonical tree as they are written (specs/Canonical.antt, `may_follow`, `written`). Assumes nothing.
-- memb: a list with one number more. written: one channel more, its length, its elements. may_follow: the first, and behind others.
use mathlib.Core.Path.{◌≡◌, refl, sym, ap, ◌∙◌}
use mathlib.Core.Logic.{◌⊎◌, inl, inr}
use Prim.Native.Nat.{ℕ, zero, suc, ◌+◌, ◌<◌}
use native.Mathlib.Omega.{arith}
use native.Mathlib.Numerals.{add-one}
use native.Mathlib.Decide.{dec_lt}
use mathlib.Core.List.{List, [], ◌∷◌, ◌++◌}
use mathlib.Core.Bool.{Bool, true, false, not, ◌&&◌, ◌||◌}
use lib.Dec.{eqb}
use lib.ListN.{length, get_or, length-append, get_or-append}
use lib.Seq.{get_or_at}
use borrow.Author.Tests.{eqb-true, eq-eqb}
use Rattle.bounded.specs.Lists.{memb, any_in}
use Rattle.bounded.proofs.BoundedLaws.{either_true, left-true, right-true}
use Rattle.bounded.proofs.ListsLaws.{memb-append}
use Rattle.canonical.specs.Canonical.{may_follow, next_channel, written}

-- a list with one number more
pub memb-more : (x : ℕ) (ws : List ℕ) (c : ℕ) → memb x (ws ++ (c ∷ [])) ≡ true → (memb x ws ≡ true) ⊎ (x ≡ c)
unfolding memb
memb-more x ws c m = at (either_true (memb x ws) (eqb x c || false) (sym (memb-append x ws (c ∷ [])) ∙ m))
  where
    last : (b : Bool) → (b || false) ≡ true → b ≡ true
    last true e = e
    last false e = e

    at : (memb x ws ≡ true) ⊎ ((eqb x c || false) ≡ true) → (memb x ws ≡ true) ⊎ (x ≡ c)
    at (inl e) = inl e
    at (inr e) = inr (eqb-true x c (last (eqb x c) e))

pub memb-kept : (x : ℕ) (ws : List ℕ) (c : ℕ) → memb x ws ≡ true → memb x (ws ++ (c ∷ [])) ≡ true
memb-kept x ws c m = memb-append x ws (c ∷ []) ∙ left-true (memb x ws) _ m

pub memb-last : (ws : List ℕ) (c : ℕ) → memb c (ws ++ (c ∷ [])) ≡ true
unfolding memb
memb-last ws c = memb-append c ws (c ∷ []) ∙ right-true (memb c ws) _ (left-true (eqb c c) false (eq-eqb c c refl))

-- ---- written, may_follow

module _ (is_channel : ℕ → Bool) (joins : ℕ → ℕ → Bool) where
  pub written_none : written is_channel joins 0 ≡ []
  unfolding written
  written_none = refl

  pub written-more : (k : ℕ) → written is_channel joins (k + 1) ≡ written is_channel joins k ++ (next_channel is_channel joins (written is_channel joins k) ∷ [])
  unfolding written
  written-more k = rw add-one

  pub written-length : (k : ℕ) → length (written is_channel joins k) ≡ k
  unfolding written
  written-length zero = refl
  written-length (suc k) =
      omega (arith, length-append (written is_channel joins k) (next_channel is_channel joins (written is_channel joins k) ∷ []), written-length k)

  pub written_at : (k i : ℕ) → i < k → get_or (written is_channel joins k) i 0 ≡ next_channel is_channel joins (written is_channel joins i)
  unfolding written
  written_at zero i h = absurd (omega arith)
  written_at (suc k) i h = at (dec_lt i k) (written_at k i)
    where
      ws : List ℕ
      ws = written is_channel joins k

      at : Dec (i < k) → (i < k → get_or ws i 0 ≡ next_channel is_channel joins (written is_channel joins i))
          → get_or (ws ++ (next_channel is_channel joins ws ∷ [])) i 0 ≡ next_channel is_channel joins (written is_channel joins i)
      at (yes l) rec = get_or-append ws _ 0 i (omega (arith, written-length k)) ∙ rec l
      at (no l) rec =
          let e : k ≡ i = omega arith in
          get_or_at ws (next_channel is_channel joins ws) [] 0 i (written-length k ∙ e)
          ∙ ap (λ (j : ℕ). next_channel is_channel joins (written is_channel joins j)) e

  pub may_follow-first : (c : ℕ) → may_follow is_channel joins [] c ≡ is_channel c
  unfolding may_follow
  may_follow-first c = refl

  pub may_follow-later : (ws : List ℕ) (c : ℕ) → 0 < length ws → may_follow is_channel joins ws c ≡ (not (memb c ws) && any_in (joins c) ws)
  unfolding may_follow
  may_follow-later [] c h = absurd (omega arith)
  may_follow-later (w ∷ ws) c h = refl
