-- Laws of the refusals' numbers (specs/Facts.antt). Assumes nothing.
-- no_of: no refusal has the number 0. number_of: an outcome with the number 0 is no refusal. first_number: of two lists of conditions, one behind
-- the other, where the first refuses.
use mathlib.Core.Path.{◌≡◌, sym, ap, ◌∙◌}
use mathlib.Core.Bool.{Bool, true}
use mathlib.Core.List.{List, ◌++◌}
use Prim.Native.Nat.{ℕ, ◌<◌}
use native.Mathlib.Omega.{arith}
use Rattle.std.proofs.Common.{rules}
use Rattle.std.specs.Prelude.{Result, Ok, Err}
use Rattle.std.specs.Result.{IsOk, IfOk}
use Rattle.numbers.specs.declared.Refusal.{Refusal}
use Rattle.numbers.specs.declared.Refusal.TheVariants.{Length, Mark, Chip, Crowd, Directory, Channel, Twice, Joint, Name, Size, Track, Switch, Clash, Space, Unroutable, Spent, Stranger, Parameter, List as Listed, Repeat, Broken}
use Rattle.numbers.specs.Numbers.{first_number}
use Rattle.numbers.specs.Facts.{no_of, number_of}
use Rattle.numbers.proofs.NumbersLaws.{numbered, first_number-before}

-- ---- no_of

pub no_of-pos : (e : Refusal) → 0 < no_of e
no_of-pos Length = omega arith
no_of-pos Mark = omega arith
no_of-pos Chip = omega arith
no_of-pos Crowd = omega arith
no_of-pos Directory = omega arith
no_of-pos Channel = omega arith
no_of-pos Twice = omega arith
no_of-pos Joint = omega arith
no_of-pos Name = omega arith
no_of-pos Size = omega arith
no_of-pos Track = omega arith
no_of-pos Switch = omega arith
no_of-pos Clash = omega arith
no_of-pos Space = omega arith
no_of-pos Unroutable = omega arith
no_of-pos Spent = omega arith
no_of-pos Stranger = omega arith
no_of-pos Parameter = omega arith
no_of-pos Listed = omega arith
no_of-pos Repeat = omega arith
no_of-pos Broken = omega arith

pub no_of-positive : (e : Refusal) → no_of e ≡ 0 → ⊥
no_of-positive e z = absurd (omega (arith, no_of-pos e))

-- ---- number_of

pub no_refusal : {A : Type 0} (r : Result A Refusal) → number_of r ≡ 0 → IsOk r
no_refusal (Ok x) h = search rules
no_refusal (Err e) h = absurd (omega (arith, no_of-pos e))

-- and where its value is known, it is that value
pub accepted : {A : Type 0} {x : A} (r : Result A Refusal) → number_of r ≡ 0 → IfOk r (λ y. y ≡ x) → r ≡ Ok x
accepted (Ok y) h e = ap Ok e
accepted (Err d) h e = absurd (omega (arith, no_of-pos d))

-- ---- first_number

-- what refuses by the first of two lists refuses by both, one behind the other
pub first_number-refused : (xs ys : List (ℕ × Bool)) → numbered xs ≡ true → (e : Refusal) → no_of e ≡ first_number xs → no_of e ≡ first_number (xs ++ ys)
first_number-refused xs ys n e h = h ∙ sym (first_number-before xs ys n (λ z. no_of-positive e (h ∙ z)))
