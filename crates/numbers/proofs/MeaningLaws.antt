-- Laws of numbers by what they mean (specs/Meanings.antt). Assumes nothing.
-- Means: conditions mean what is said of them; of two lists, one behind the other; of the space. means-exactly: where they do, the number of the first
-- condition that holds is given exactly so.
use mathlib.Core.Path.{◌≡◌, refl, sym, subst, ap, ◌∙◌}
use mathlib.Core.Logic.{◌⊎◌, ◌↔◌, ◌≢◌, inl, inr}
use mathlib.Core.Bool.{Bool, true, false, not, ◌&&◌, ◌||◌, true≢false}
use mathlib.Core.List.{List, [], ◌∷◌, ◌++◌}
use Prim.Native.Nat.{ℕ, zero, suc}
use native.Mathlib.Omega.{arith}
use lib.Dec.{eqb}
use borrow.Author.Tests.{ltb-true, lt-ltb, eqb-true, eqb-false, eq-eqb, not-true}
use Rattle.bounded.specs.Lists.{memb}
use Rattle.bounded.proofs.BoundedLaws.{both_true, left-true, right-true}
use Rattle.numbers.specs.Numbers.{first_number, space_conditions}
use Rattle.numbers.specs.Meanings.{Meanings, numbers_in, FirstApplies, NoneApplies, GivenExactly, space_meanings}
use Rattle.numbers.proofs.NumbersLaws.{numbered}

-- ---- Means

-- the conditions xs have the numbers of ys, and each holds exactly if its number applies, where B is the case and none before it applies
abbrev pub Means : Type 0 → List (ℕ × Bool) → Meanings → Type 0
Means B [] [] = Unit {0}
Means B [] (y ∷ ys) = ⊥
Means B (x ∷ xs) [] = ⊥
Means B ((x, c) ∷ xs) ((y, P) ∷ ys) = (x ≡ y) × (B → (c ≡ true) ↔ P) × Means (B × (P → ⊥)) xs ys

pub means-append : (xs us : List (ℕ × Bool)) (ys vs : Meanings) → ((B : Type 0) → Means B xs ys) → ((B : Type 0) → Means B us vs)
    → (B : Type 0) → Means B (xs ++ us) (ys ++ vs)
means-append xs us ys vs M N B = at xs ys B (M B)
  where
    at : (xs : List (ℕ × Bool)) (ys : Meanings) (B : Type 0) → Means B xs ys → Means B (xs ++ us) (ys ++ vs)
    at [] [] B M = N B
    at [] (y ∷ ys) B M = absurd M
    at (x ∷ xs) [] B M = absurd M
    at ((x, c) ∷ xs) ((y, P) ∷ ys) B M = (M.0, M.1, at xs ys (B × (P → ⊥)) M.2)

pub space-means : (needed given : ℕ) (B : Type 0) → Means B (space_conditions needed given) (space_meanings needed given)
space-means needed given B = (refl, (λ b. (ltb-true given needed, lt-ltb given needed)), tt)

-- ---- what is given

-- no number stands twice
abbrev pub once : List ℕ → Bool
once [] = true
once (x ∷ xs) = not (memb x xs) && once xs

-- no number of the list comes at the end
abbrev pub Apart : (ℕ → Type 0) → List ℕ → Type 0
Apart Ends xs = (x : ℕ) → memb x xs ≡ true → Ends x → ⊥

-- n is the number of the first condition that holds; `Ends n` where none does
abbrev Given : (ℕ → Type 0) → List (ℕ × Bool) → ℕ → Type 0
Given Ends [] n = Ends n
Given Ends ((x, true) ∷ xs) n = n ≡ x
Given Ends ((x, false) ∷ xs) n = Given Ends xs n

first-given : (Ends : ℕ → Type 0) (xs : List (ℕ × Bool)) (n : ℕ) → numbered xs ≡ true
    → (first_number xs ≢ 0 → n ≡ first_number xs) → (first_number xs ≡ 0 → Ends n) → Given Ends xs n
unfolding first_number
first-given Ends [] n h f g = g refl
first-given Ends ((zero, c) ∷ xs) n h f g = absurd (true≢false (sym h))
first-given Ends ((suc x, true) ∷ xs) n h f g = f (λ e. omega arith)
first-given Ends ((suc x, false) ∷ xs) n h f g = first-given Ends xs n h f g

-- a number that is given is one of the list's, or at the end
given-in : (Ends : ℕ → Type 0) (xs : List (ℕ × Bool)) (ys : Meanings) (B : Type 0) (n : ℕ) → Means B xs ys → Given Ends xs n
    → (memb n (numbers_in ys) ≡ true) ⊎ Ends n
unfolding memb
given-in Ends [] [] B n M g = inr g
given-in Ends [] (y ∷ ys) B n M g = absurd M
given-in Ends (x ∷ xs) [] B n M g = absurd M
given-in Ends ((x, true) ∷ xs) ((y, P) ∷ ys) B n M g = inl (left-true (eqb n y) (memb n (numbers_in ys)) (eq-eqb n y (g ∙ M.0)))
given-in Ends ((x, false) ∷ xs) ((y, P) ∷ ys) B n M g = at (given-in Ends xs ys (B × (P → ⊥)) n M.2 g)
  where
    at : (memb n (numbers_in ys) ≡ true) ⊎ Ends n → ((eqb n y || memb n (numbers_in ys)) ≡ true) ⊎ Ends n
    at (inl e) = inl (right-true (eqb n y) (memb n (numbers_in ys)) e)
    at (inr e) = inr e

-- one step of `FirstApplies`, whether x is the first number
abbrev Step : Bool → Type 0 → Meanings → ℕ → Type 0
Step b P ys x = elim b [ true ↦ P | false ↦ (P → ⊥) × FirstApplies ys x ]

module _ (Ends : ℕ → Type 0) where
  -- the head of a list is not given where its condition does not hold
  not-head : (xs : List (ℕ × Bool)) (y : ℕ) (ys : Meanings) (B : Type 0) (n : ℕ) → Means B xs ys → not (memb y (numbers_in ys)) ≡ true
      → (Ends y → ⊥) → Given Ends xs n → n ≡ y → ⊥
  not-head xs y ys B n M o A g e = at (given-in Ends xs ys B n M g)
    where
      at : (memb n (numbers_in ys) ≡ true) ⊎ Ends n → ⊥
      at (inl m) = true≢false (sym (ap (λ (k : ℕ). memb k (numbers_in ys)) (sym e) ∙ m) ∙ not-true _ o)
      at (inr z) = A (subst Ends e z)

  means-given : (xs : List (ℕ × Bool)) (ys : Meanings) (B : Type 0) (n : ℕ) → B → Means B xs ys → once (numbers_in ys) ≡ true
      → Apart Ends (numbers_in ys) → Given Ends xs n → (x : ℕ) → memb x (numbers_in ys) ≡ true → (n ≡ x) ↔ FirstApplies ys x
  unfolding memb
  means-given [] [] B n b M o A g x m = absurd (true≢false (sym m))
  means-given [] (y ∷ ys) B n b M o A g x m = absurd M
  means-given (x0 ∷ xs) [] B n b M o A g x m = absurd M
  means-given ((x0, c) ∷ xs) ((y, P) ∷ ys) B n b M o A g x m = at c M g (eqb x y) refl m (means-given xs ys (B × (P → ⊥)) n)
    where
      k : (not (memb y (numbers_in ys)) ≡ true) × (once (numbers_in ys) ≡ true)
      k = both_true (not (memb y (numbers_in ys))) (once (numbers_in ys)) o

      own : Ends y → ⊥
      own = A y (left-true (eqb y y) (memb y (numbers_in ys)) (eq-eqb y y refl))

      later : Apart Ends (numbers_in ys)
      later z h = A z (right-true (eqb z y) (memb z (numbers_in ys)) h)

      at : (c : Bool) → (M : Means B ((x0, c) ∷ xs) ((y, P) ∷ ys)) → Given Ends ((x0, c) ∷ xs) n → (q : Bool) → eqb x y ≡ q
          → (q || memb x (numbers_in ys)) ≡ true
          → (B × (P → ⊥) → Means (B × (P → ⊥)) xs ys → once (numbers_in ys) ≡ true → Apart Ends (numbers_in ys) → Given Ends xs n
          → (x : ℕ) → memb x (numbers_in ys) ≡ true → (n ≡ x) ↔ FirstApplies ys x)
          → (n ≡ x) ↔ Step q P ys x
      at true M g true e m rec = ((λ h. (M.1 b).0 refl), (λ p. g ∙ M.0 ∙ sym (eqb-true x y e)))
      at true M g false e m rec = (
        (λ h. absurd (eqb-false x y e (sym h ∙ g ∙ M.0))),
        (λ h. absurd (h.0 ((M.1 b).0 refl))),
      )
      at false M g true e m rec = (
        (λ h. absurd (not-head xs y ys (B × (P → ⊥)) n M.2 k.0 own g (h ∙ eqb-true x y e))),
        (λ p. absurd (true≢false (sym ((M.1 b).1 p)))),
      )
      at false M g false e m rec =
          let none : P → ⊥ = λ p. true≢false (sym ((M.1 b).1 p)) in
          let r = rec (b, none) M.2 k.1 later g x m in
          ((λ h. (none, r.0 h)), (λ h. r.1 h.1))

  means-ends : (xs : List (ℕ × Bool)) (ys : Meanings) (B : Type 0) (n : ℕ) → B → Means B xs ys → Apart Ends (numbers_in ys) → Given Ends xs n
      → Ends n ↔ NoneApplies ys
  unfolding memb
  means-ends [] [] B n b M A g = ((λ e. tt), (λ h. g))
  means-ends [] (y ∷ ys) B n b M A g = absurd M
  means-ends (x ∷ xs) [] B n b M A g = absurd M
  means-ends ((x, true) ∷ xs) ((y, P) ∷ ys) B n b M A g = (
    (λ e. absurd (A y (left-true (eqb y y) (memb y (numbers_in ys)) (eq-eqb y y refl)) (subst Ends (g ∙ M.0) e))),
    (λ h. absurd (h.0 ((M.1 b).0 refl))),
  )
  means-ends ((x, false) ∷ xs) ((y, P) ∷ ys) B n b M A g =
      let none : P → ⊥ = λ p. true≢false (sym ((M.1 b).1 p)) in
      let r = means-ends xs ys (B × (P → ⊥)) n (b, none) M.2 (λ z h. A z (right-true (eqb z y) (memb z (numbers_in ys)) h)) g in
      ((λ e. (none, r.0 e)), (λ h. r.1 h.1))

  -- the number n of a call: that of the first condition that holds, and where none does, one that comes at the end
  pub means-exactly : (xs : List (ℕ × Bool)) (ys : Meanings) → ((B : Type 0) → Means B xs ys) → numbered xs ≡ true → once (numbers_in ys) ≡ true
      → Apart Ends (numbers_in ys) → (n : ℕ) → (first_number xs ≢ 0 → n ≡ first_number xs) → (first_number xs ≡ 0 → Ends n) → GivenExactly Ends ys n
  means-exactly xs ys M h o A n f g =
      let G = first-given Ends xs n h f g in
      record {
        given = means-given xs ys (Unit {0}) n tt (M (Unit {0})) o A G;
        ends = means-ends xs ys (Unit {0}) n tt (M (Unit {0})) A G;
      }
