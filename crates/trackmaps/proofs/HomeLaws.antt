-- Laws of a net's home: its entry is the first of the lowest channels. Assumes nothing.
-- place: of an element that does not stand earlier. FirstLowest: of one element, of one more, of all of a list.
use mathlib.Core.Path.{◌≡◌, sym, ap}
use mathlib.Core.List.{List, [], ◌∷◌}
use Prim.Native.Nat.{ℕ, zero, suc, ◌+◌, ◌≤◌, ◌<◌}
use native.Mathlib.Omega.{arith}
use lib.ListN.{length, get_or}
use borrow.Author.Count.{below_more}
use borrow.Author.Tests.{eq-eqb, ne_eqb}
use Rattle.bounded.specs.Lists.{place, lowest}
use Rattle.bounded.proofs.ListsLaws.{memb-place, memb-at, lowest-in, lowest-le}

-- ---- place

place-first :
    (x : ℕ) (xs : List ℕ) (i : ℕ) → i < length xs → get_or xs i 0 ≡ x → ((j : ℕ) → j < i → get_or xs j 0 ≡ x → ⊥) → place x xs ≡ i
unfolding place
place-first x [] i h e f = absurd (omega arith)
place-first x (y ∷ ys) zero h e f = rw (eq-eqb x y (sym e), place)
place-first x (y ∷ ys) (suc i) h e f =
    rw (ne_eqb x y (λ q. f 0 (omega arith) (sym q)), place)
    (ap suc (place-first x ys i (omega arith) e (λ j l. f (suc j) (omega arith))))

-- ---- FirstLowest

-- at is the index of the first of the lowest among the first k
pub record FirstLowest (xs : List ℕ) (k at : ℕ) : Type 0 where
  pub within : at < k
  pub least : (j : ℕ) → j < k → get_or xs at 0 ≤ get_or xs j 0
  pub first : (j : ℕ) → j < at → get_or xs at 0 < get_or xs j 0

module _ (xs : List ℕ) where
  pub first_lowest-one : FirstLowest xs 1 0
  first_lowest-one = record {
    within = omega arith;
    least = λ j l. let e : j ≡ 0 = omega arith in omega (arith, ap (λ (k : ℕ). get_or xs k 0) e);
    first = λ j l. absurd (omega arith);
  }

  -- one more, not lower or lower
  pub first_lowest-keep : (k at : ℕ) → FirstLowest xs k at → get_or xs at 0 ≤ get_or xs k 0 → FirstLowest xs (k + 1) at
  first_lowest-keep k at p h = record {
    within = omega (arith, p.within);
    least = below_more (λ (j : ℕ). get_or xs at 0 ≤ get_or xs j 0) k p.least h;
    first = p.first;
  }

  pub first_lowest-new : (k at : ℕ) → FirstLowest xs k at → get_or xs k 0 < get_or xs at 0 → FirstLowest xs (k + 1) k
  first_lowest-new k at p h = record {
    within = omega arith;
    least = below_more (λ (j : ℕ). get_or xs k 0 ≤ get_or xs j 0) k (λ j l. omega (arith, p.least j l)) (omega arith);
    first = λ j l. omega (arith, p.least j l);
  }

  pub first_lowest-all : (k at : ℕ) → length xs ≡ k → FirstLowest xs k at → at ≡ place (lowest xs) xs
  first_lowest-all k at e p =
      let w : at < length xs = omega (arith, p.within) in
      let r = memb-place (lowest xs) xs (lowest-in xs (omega arith)) in
      let l = lowest-le xs (get_or xs at 0) (memb-at xs at w) in
      let q : get_or xs at 0 ≡ lowest xs = omega (arith, p.least (place (lowest xs) xs) (omega arith)) in
      sym (place-first (lowest xs) xs at w q (λ j l d. omega (arith, p.first j l)))
