-- Numbers by what they mean (01 "Words for no": "The lowest number that applies is given", in the order of the table). Definitions only; laws:
-- proofs/MeaningLaws.antt. Assumes nothing.
use Rattle.std.specs.Prelude.{◌≡◌, ◌↔◌, ℕ, ◌<◌, List, [], ◌∷◌, true, false, eqb}
use Rattle.bounded.specs.Lists.{memb}
use Rattle.numbers.specs.Numbers.{space_no}

-- numbers in the order of the table, each with what is the case where it applies
abbrev pub Meanings : Type 1
Meanings = List (ℕ × Type 0)

abbrev pub numbers_in : Meanings → List ℕ
numbers_in [] = []
numbers_in ((y, P) ∷ ys) = y ∷ numbers_in ys

-- the number x applies, and none before it does
abbrev pub FirstApplies : Meanings → ℕ → Type 0
FirstApplies [] x = ⊥
FirstApplies ((y, P) ∷ ys) x = elim (eqb x y) [ true ↦ P | false ↦ (P → ⊥) × FirstApplies ys x ]

abbrev pub NoneApplies : Meanings → Type 0
NoneApplies [] = Unit {0}
NoneApplies ((y, P) ∷ ys) = (P → ⊥) × NoneApplies ys

-- when a call gives each of them, in both directions: its number n; `Ends n` says that n is one that comes where none of them applies
pub record GivenExactly (Ends : ℕ → Type 0) (ys : Meanings) (n : ℕ) : Type 0 where
  pub given : (x : ℕ) → memb x (numbers_in ys) ≡ true → (n ≡ x) ↔ FirstApplies ys x
  pub ends : Ends n ↔ NoneApplies ys

-- 14 space: the output has fewer bytes than are needed
abbrev pub space_meanings : ℕ → ℕ → Meanings
space_meanings needed given = (space_no, given < needed) ∷ []
