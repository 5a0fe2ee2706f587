-- Laws of where a run ends (specs/Ends.antt). Assumes nothing.
-- end_from: between its bounds, it ends at none before, and there unless it is the last. ends_at: what it says, and what not. trials_of: no more than
-- the trials of the run where all before the last find nothing; as many, where the last finds something or is the run's last; of searches that
-- agree. end_same: searches with the same trials, which find at the same places, end at the same one. ends-alike: runs whose searches agree up to where one ends are equal, or both need more than the budget.
use mathlib.Core.Path.{◌≡◌, refl, sym, subst, ap, ap₂, ◌∙◌}
use mathlib.Core.Logic.{◌⊎◌, inl, inr}
use Prim.Native.Nat.{ℕ, zero, suc, ◌+◌, ◌≤◌, ◌<◌}
use native.Mathlib.Omega.{arith}
use native.Mathlib.Decide.{dec_lt}
use mathlib.Core.Bool.{Bool, true, false, ◌||◌, true≢false}
use lib.Dec.{ltb}
use borrow.Author.Tests.{ltb-true, ltb-false}
use Rattle.backtracking.specs.Search.{Outcome, found, not_found, trials, after, or_next, first_of}
use Rattle.backtracking.specs.Ends.{is_found, trials_of, ends_at, end_from}
use Rattle.backtracking.proofs.AgreeLaws.{first-agree, first-agree-to}
use Rattle.backtracking.proofs.SearchLaws.{Finds, Fails}

module _ {A : Type 0} where
  -- ---- is_found

  pub found-finds : (o : Outcome A) → is_found o ≡ true → (a : A) × Finds o a
  found-finds (found a n) e = (a, (n, refl))
  found-finds (not_found n) e = absurd (true≢false (sym e))

  pub found-fails : (o : Outcome A) → is_found o ≡ false → Fails o
  found-fails (found a n) e = absurd (true≢false e)
  found-fails (not_found n) e = (n, refl)

  -- ---- end_from

  module _ (next : ℕ → Outcome A) (budget : ℕ) where
    end_step : (k t : ℕ) (b : Bool) → ends_at next budget t ≡ b
        → end_from next budget (suc k) t ≡ elim b as (λ _. ℕ) [ true ↦ t | false ↦ end_from next budget k (suc t) ]
    unfolding end_from
    end_step k t b e = ap (λ (x : Bool). elim x as (λ _. ℕ) [ true ↦ t | false ↦ end_from next budget k (suc t) ]) e

    pub end-bounds : (k t : ℕ) → (t ≤ end_from next budget k t) × (end_from next budget k t ≤ t + k)
    unfolding end_from
    end-bounds zero t = (omega arith, omega arith)
    end-bounds (suc k) t = at (ends_at next budget t) refl (end-bounds k (suc t))
      where
        at : (b : Bool) → ends_at next budget t ≡ b → (suc t ≤ end_from next budget k (suc t)) × (end_from next budget k (suc t) ≤ suc t + k)
            → (t ≤ end_from next budget (suc k) t) × (end_from next budget (suc k) t ≤ t + suc k)
        at true e r = rw (end_step k t true e) (omega arith, omega arith)
        at false e r = rw (end_step k t false e) (omega (arith, r.0), omega (arith, r.1))

    -- it ends at none before
    pub end_before : (k t v : ℕ) → t ≤ v → v < end_from next budget k t → ends_at next budget v ≡ false
    unfolding end_from
    end_before zero t v l h = absurd (omega arith)
    end_before (suc k) t v l h = at (ends_at next budget t) refl (dec_lt t v) (end_before k (suc t) v)
      where
        at : (b : Bool) → ends_at next budget t ≡ b → Dec (t < v) → (suc t ≤ v → v < end_from next budget k (suc t) → ends_at next budget v ≡ false)
            → ends_at next budget v ≡ false
        at true e d rec = absurd (omega (arith, end_step k t true e))
        at false e (yes n) rec = rec n (omega (arith, end_step k t false e))
        at false e (no n) rec = let q : v ≡ t = omega arith in ap (ends_at next budget) q ∙ e

    -- and there, unless it is the last
    pub end-there : (k t : ℕ) → end_from next budget k t < t + k → ends_at next budget (end_from next budget k t) ≡ true
    unfolding end_from
    end-there zero t h = absurd (omega arith)
    end-there (suc k) t h = at (ends_at next budget t) refl (end-there k (suc t))
      where
        at : (b : Bool) → ends_at next budget t ≡ b
            → (end_from next budget k (suc t) < suc t + k → ends_at next budget (end_from next budget k (suc t)) ≡ true)
            → ends_at next budget (end_from next budget (suc k) t) ≡ true
        at true e rec = ap (ends_at next budget) (end_step k t true e) ∙ e
        at false e rec = let s = end_step k t false e in ap (ends_at next budget) s ∙ rec (omega (arith, s))

    -- ---- ends_at

    pub ends-no : (w : ℕ) → ends_at next budget w ≡ false → Fails (next w) × (trials_of next w 1 ≤ budget)
    unfolding ends_at
    ends-no w e = at (is_found (next w)) (ltb budget (trials_of next w 1)) refl refl e
      where
        at : (x y : Bool) → is_found (next w) ≡ x → ltb budget (trials_of next w 1) ≡ y → (x || y) ≡ false
            → Fails (next w) × (trials_of next w 1 ≤ budget)
        at true y p q e = absurd (true≢false e)
        at false true p q e = absurd (true≢false e)
        at false false p q e = (found-fails (next w) p, omega (arith, ltb-false budget (trials_of next w 1) q))

    pub ends-yes : (w : ℕ) → ends_at next budget w ≡ true → ((a : A) × Finds (next w) a) ⊎ (budget < trials_of next w 1)
    unfolding ends_at
    ends-yes w e = at (is_found (next w)) (ltb budget (trials_of next w 1)) refl refl e
      where
        at : (x y : Bool) → is_found (next w) ≡ x → ltb budget (trials_of next w 1) ≡ y → (x || y) ≡ true
            → ((a : A) × Finds (next w) a) ⊎ (budget < trials_of next w 1)
        at true y p q e = inl (found-finds (next w) p)
        at false true p q e = inr (ltb-true budget (trials_of next w 1) q)
        at false false p q e = absurd (true≢false (sym e))

  -- ---- trials_of

  after-trials : (c : ℕ) (o : Outcome A) → trials (after c o) ≡ c + trials o
  unfolding after
  after-trials c (found a n) = refl
  after-trials c (not_found n) = refl

  or-trials : (o : Outcome A) (r : Unit {0} → Outcome A) → trials o ≤ trials (or_next o r)
  unfolding or_next
  or-trials (found a n) r = omega arith
  or-trials (not_found n) r = omega (arith, after-trials n (r tt))

  or-fails : (o : Outcome A) (r : Unit {0} → Outcome A) → Fails o → trials (or_next o r) ≡ trials o + trials (r tt)
  unfolding or_next
  or-fails o r (n, e) =
      ap (λ (x : Outcome A). trials (or_next x r)) e ∙ after-trials n (r tt) ∙ sym (ap (λ (x : Outcome A). trials x + trials (r tt)) e)

  or-finds : (o : Outcome A) (r : Unit {0} → Outcome A) (a : A) → Finds o a → trials (or_next o r) ≡ trials o
  unfolding or_next
  or-finds o r a (n, e) = ap (λ (x : Outcome A). trials (or_next x r)) e ∙ sym (ap (λ (x : Outcome A). trials x) e)

  -- all but the last of the first m find nothing
  abbrev pub NoneBefore : (ℕ → Outcome A) → ℕ → ℕ → Type 0
  NoneBefore next m t = (v : ℕ) → t ≤ v → suc v < t + m → Fails (next v)

  pub trials-le : (next : ℕ → Outcome A) (k m t : ℕ) → m ≤ k → NoneBefore next m t → trials_of next m t ≤ trials (first_of next k t)
  unfolding trials_of first_of
  trials-le next k zero t h N = omega arith
  trials-le next zero (suc m) t h N = absurd (omega arith)
  trials-le next (suc k) (suc zero) t h N = omega (arith, or-trials (next t) (λ _. first_of next k (suc t)))
  trials-le next (suc k) (suc (suc m)) t h N =
      omega (
        arith,
        or-fails (next t) (λ _. first_of next k (suc t)) (N t (omega arith) (omega arith)),
        trials-le next k (suc m) (suc t) (omega arith) (λ v p q. N v (omega arith) (omega arith)),
      )

  -- the run stops there: it finds something, or there are no more
  trials-all : (next : ℕ → Outcome A) (k m t : ℕ) → suc m ≤ k → NoneBefore next (suc m) t
      → ((a : A) × Finds (next (t + m)) a) ⊎ ((suc m ≡ k) × Fails (next (t + m))) → trials (first_of next k t) ≡ trials_of next (suc m) t
  unfolding trials_of first_of
  trials-all next zero m t h N S = absurd (omega arith)
  trials-all next (suc k) zero t h N (inl (a, f)) =
      or-finds (next t) (λ _. first_of next k (suc t)) a (subst (λ (v : ℕ). Finds (next v) a) (omega arith) f) ∙ omega arith
  trials-all next (suc zero) zero t h N (inr (e, f)) = or-fails (next t) _ (subst (λ (v : ℕ). Fails (next v)) (omega arith) f)
  trials-all next (suc (suc k)) zero t h N (inr (e, f)) = absurd (omega arith)
  trials-all next (suc k) (suc m) t h N S =
      or-fails (next t) (λ _. first_of next k (suc t)) (N t (omega arith) (omega arith))
      ∙ ap (λ (x : ℕ). trials (next t) + x)
      (trials-all next k m (suc t) (omega arith) (λ v p q. N v (omega arith) (omega arith)) (moved S))
    where
      moved : ((a : A) × Finds (next (t + suc m)) a) ⊎ ((suc (suc m) ≡ suc k) × Fails (next (t + suc m)))
          → ((a : A) × Finds (next (suc t + m)) a) ⊎ ((suc m ≡ k) × Fails (next (suc t + m)))
      moved (inl (a, f)) = inl (a, subst (λ (v : ℕ). Finds (next v) a) (omega arith) f)
      moved (inr (e, f)) = inr (omega arith, subst (λ (v : ℕ). Fails (next v)) (omega arith) f)

  pub trials-end : (next : ℕ → Outcome A) (k m : ℕ) → 1 ≤ m → m ≤ k → NoneBefore next m 1
      → ((a : A) × Finds (next m) a) ⊎ ((m ≡ k) × Fails (next m)) → trials (first_of next k 1) ≡ trials_of next m 1
  trials-end next k zero l h N S = absurd (omega arith)
  trials-end next k (suc m) l h N (inl (a, f)) =
      trials-all next k m 1 h N (inl (a, subst (λ (v : ℕ). Finds (next v) a) (omega arith) f))
  trials-end next k (suc m) l h N (inr (e, f)) =
      trials-all next k m 1 h N (inr (e, subst (λ (v : ℕ). Fails (next v)) (omega arith) f))

  pub trials-agree : (f g : ℕ → Outcome A) (k t : ℕ) → ((v : ℕ) → t ≤ v → v < t + k → f v ≡ g v) → trials_of f k t ≡ trials_of g k t
  unfolding trials_of
  trials-agree f g zero t h = refl
  trials-agree f g (suc k) t h =
      ap₂ ◌+◌ (ap (λ (o : Outcome A). trials o) (h t (omega arith) (omega arith))) (trials-agree f g k (suc t) (λ v p q. h v (omega arith) (omega arith)))

  -- ---- two runs through searches that agree

  module _ (f g : ℕ → Outcome A) (budget k : ℕ) where
    abbrev end : ℕ
    end = end_from f budget k 1

    -- of k + 1 searches that agree up to where the run through the first of them ends
    pub ends-alike : ((v : ℕ) → 1 ≤ v → v ≤ end → f v ≡ g v)
        → (first_of f (suc k) 1 ≡ first_of g (suc k) 1) ⊎ ((budget < trials (first_of f (suc k) 1)) × (budget < trials (first_of g (suc k) 1)))
    ends-alike h = by (dec_lt end (1 + k))
      where
        B : (1 ≤ end) × (end ≤ 1 + k)
        B = end-bounds f budget k 1

        N : NoneBefore f end 1
        N v p q = (ends-no f budget v (end_before f budget k 1 v p (omega arith))).0

        N2 : NoneBefore g end 1
        N2 v p q = subst Fails (h v p (omega arith)) (N v p q)

        same : trials_of f end 1 ≡ trials_of g end 1
        same = trials-agree f g end 1 (λ v p q. h v p (omega arith))

        stops : ((a : A) × Finds (f end) a) ⊎ (budget < trials_of f end 1)
            → (first_of f (suc k) 1 ≡ first_of g (suc k) 1) ⊎ ((budget < trials (first_of f (suc k) 1)) × (budget < trials (first_of g (suc k) 1)))
        stops (inl (a, (n, e))) = inl (first-agree-to f g (suc k) 1 end B.0 (omega (arith, B.1)) a n e h)
        stops (inr l) = inr (
          omega (arith, trials-le f (suc k) end 1 (omega (arith, B.1)) N),
          omega (arith, same, trials-le g (suc k) end 1 (omega (arith, B.1)) N2),
        )

        by : Dec (end < 1 + k)
            → (first_of f (suc k) 1 ≡ first_of g (suc k) 1) ⊎ ((budget < trials (first_of f (suc k) 1)) × (budget < trials (first_of g (suc k) 1)))
        by (yes l) = stops (ends-yes f budget end (end-there f budget k 1 l))
        by (no l) = inl (first-agree f g (suc k) 1 (λ v p q. h v p (omega (arith, B.1))))

-- ---- searches with the same trials, which find at the same places

module _ {A B : Type 0} (f : ℕ → Outcome A) (g : ℕ → Outcome B) (T : (w : ℕ) → trials (f w) ≡ trials (g w)) (F : (w : ℕ) → is_found (f w) ≡ is_found (g w)) where
  pub trials-same : (k t : ℕ) → trials_of f k t ≡ trials_of g k t
  unfolding trials_of
  trials-same zero t = refl
  trials-same (suc k) t = ap₂ ◌+◌ (T t) (trials-same k (suc t))

  pub end_same : (budget k t : ℕ) → end_from f budget k t ≡ end_from g budget k t
  unfolding end_from ends_at
  end_same budget zero t = refl
  end_same budget (suc k) t =
      ap₂ (λ (b : Bool) (r : ℕ). elim b as (λ _. ℕ) [ true ↦ t | false ↦ r ])
      (ap₂ ◌||◌ (F t) (ap (ltb budget) (trials-same t 1))) (end_same budget k (suc t))
