-- The tests over the numbers below a bound (specs/Bounded.antt) as the library's over a list of them. Assumes nothing.
-- listed-every, listed-any, listed-count: of the list 0, 1, …, n - 1. every_from_all, any_from_any: what `all` and `any` over a range return.
use mathlib.Core.Path.{◌≡◌, refl, ap, ap₂, ◌∙◌}
use Prim.Native.Nat.{ℕ, zero, suc, ◌+◌}
use native.Mathlib.Omega.{arith}
use mathlib.Core.List.{List, [], ◌∷◌, ◌++◌}
use mathlib.Core.Bool.{Bool, true, false, ◌&&◌, ◌||◌, and-true, or-false, cond}
use denote.Param.Members.{Mut}
use Rattle.std.specs.declared.ops.Range.{Range}
use Rattle.std.specs.Prelude.{Option}
use Rattle.std.specs.Fn.{Called}
use Rattle.std.specs.Option.{MatchOption}
use Rattle.std.specs.Iterator.{YieldsThen}
use Rattle.std.specs.List.{FoldsTo, list_all, list_any, count_by, range_with_len}
use Rattle.std.proofs.iter.Yields.{nat_range_steps}
use Rattle.std.proofs.lemmas.List.Folds.{list_all-append, list_any-append}
use Rattle.std.proofs.lemmas.List.Sums.{sum_by_push}
use Rattle.std.proofs.lemmas.Iterator.{YieldsList-from_range}
use Rattle.std.proofs.lemmas.Iterator.Search.{all_from_yields_List, any_from_yields_List}
use Rattle.bounded.specs.Bounded.{every, any_below, count_below}

-- one number more at the end
range-more : (a n j : ℕ) → a + n ≡ j → range_with_len a (suc n) ≡ range_with_len a n ++ (j ∷ [])
range-more a zero j e = let q : a ≡ j = omega arith in ap (λ (x : ℕ). x ∷ []) q
range-more a (suc n) j e = ap (λ (xs : List ℕ). a ∷ xs) (range-more (a + 1) n j (omega arith))

pub listed-every : (n : ℕ) (f : ℕ → Bool) → list_all f (range_with_len 0 n) ≡ every n f
unfolding every
listed-every zero f = refl
listed-every (suc n) f =
    ap (list_all f) (range-more 0 n n (omega arith)) ∙ list_all-append f (range_with_len 0 n) (n ∷ []) ∙ ap₂ ◌&&◌ (listed-every n f) (and-true (f n))

pub listed-any : (n : ℕ) (f : ℕ → Bool) → list_any f (range_with_len 0 n) ≡ any_below n f
unfolding any_below
listed-any zero f = refl
listed-any (suc n) f =
    ap (list_any f) (range-more 0 n n (omega arith)) ∙ list_any-append f (range_with_len 0 n) (n ∷ []) ∙ ap₂ ◌||◌ (listed-any n f) (or-false (f n))

pub listed-count : (n : ℕ) (f : ℕ → Bool) → count_by f (range_with_len 0 n) ≡ count_below n f
unfolding count_below
listed-count zero f = refl
listed-count (suc n) f =
    ap (count_by f) (range-more 0 n n (omega arith)) ∙ sum_by_push (λ x. cond (f x) 1 0) (range_with_len 0 n) n ∙ ap₂ ◌+◌ (listed-count n f) (one (f n))
  where
    one : (b : Bool) → ◌≡◌ {A = ℕ} (cond b 1 0) (elim b [ true ↦ 1 | false ↦ 0 ])
    one true = refl
    one false = refl

-- ---- a call of `all` or `any` over 0 .. n, whose closure computes the test f

module _ {C : Type 0} {g : Mut C (ℕ × Unit {0}) Bool} {s u : Range ℕ} {p : C} (n : ℕ) (f : ℕ → Bool) {r : Bool} where
  pub every_from_all : (xs : List ℕ) × (o : Option ℕ) × (j : C) × YieldsThen nat_range_steps s xs o u
      × FoldsTo (λ p x q. Called g p (x, tt) true q) p xs j × MatchOption o (r ≡ true) (λ x. (r ≡ false) × ((h : C) × Called g j (x, tt) false h))
      → s ≡ record { start = 0; end = n } → ((x : ℕ) (b : Bool) (q : C) → Called g p (x, tt) b q → (q ≡ p) × (b ≡ f x)) → r ≡ every n f
  every_from_all d e k = all_from_yields_List f u p r d (YieldsList-from_range 0 n n e (omega arith)) k ∙ listed-every n f

  pub any_from_any : (xs : List ℕ) × (o : Option ℕ) × (j : C) × YieldsThen nat_range_steps s xs o u
      × FoldsTo (λ p x q. Called g p (x, tt) false q) p xs j × MatchOption o (r ≡ false) (λ x. (r ≡ true) × ((h : C) × Called g j (x, tt) true h))
      → s ≡ record { start = 0; end = n } → ((x : ℕ) (b : Bool) (q : C) → Called g p (x, tt) b q → (q ≡ p) × (b ≡ f x)) → r ≡ any_below n f
  any_from_any d e k = any_from_yields_List f u p r d (YieldsList-from_range 0 n n e (omega arith)) k ∙ listed-any n f
