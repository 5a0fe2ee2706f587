-- Laws of the numbers before any trial (specs/Outcomes.antt). Assumes nothing.
-- first_number: a test that all numbers of a list pass. read_of, check_of: which numbers. read-order,
-- check-order, call-order: the conditions stand in the order of the table. number_before: it is one of the call's numbers, it is neither 15
-- nor 16; of a refused and of an accepted sheet, and with a refused and an accepted list; what 0 says, and of Refit's old assignment. space-zero, zero-space: 14.
use mathlib.Core.Path.{◌≡◌, refl, sym, subst, ap, ◌∙◌}
use mathlib.Core.Logic.{◌≢◌}
use Prim.Native.Nat.{ℕ, ◌≤◌}
use native.Mathlib.Omega.{arith}
use native.Mathlib.Decide.{dec_le}
use mathlib.Core.List.{List, [], ◌∷◌, ◌++◌, map}
use mathlib.Core.Bool.{Bool, true, false, not, ◌||◌, or-false, true≢false}
use lib.ListN.{length}
use Rattle.numbers.specs.Numbers.{in_order_of, InTableOrder, first_number, unroutable_no, spent_no}
use Rattle.bounded.specs.Lists.{memb, every_in}
use Rattle.bounded.proofs.BoundedLaws.{both_true}
use Rattle.numbers.proofs.NumbersLaws.{or_number, or_number-first, or_number-second, first_number-append, first_number-before, first_number-rest, first_number-both, space-short, space-room}
use Rattle.net.specs.Nets.{entry_count}
use Rattle.netlist.specs.Netlist.{sheet_conditions, WellFormed, refusal, channels_of}
use Rattle.reader.specs.Read.{read_of}
use Rattle.reader.proofs.MeaningLaws.{read_of-number}
use Rattle.defects.specs.Facts.{list_number}
use Rattle.defects.specs.Defects.{list_conditions}
use Rattle.assignment.specs.Check.{number_on, check_conditions, check_of}
use Rattle.assignment.specs.Assignment.{ticket_conditions}
use Rattle.routing.specs.Equivalent.{EnoughSpace}
use Rattle.routing.specs.Outcomes.{Inputs, nets_in, out_conditions, conditions, number_before, width_in, board_in}
use Rattle.routing.specs.declared.Call.{Call}
use Rattle.routing.specs.declared.Call.TheVariants.{Route, Least, Refit}
use Rattle.routing.specs.Results.{read_numbers, check_numbers, numbers_of, IsOneOf}

-- ---- first_number

-- a test that 0 and every number of the list pass
pub first_number-passes : (P : ℕ → Bool) → P 0 ≡ true → (xs : List (ℕ × Bool)) → every_in P (map (λ (x : ℕ × Bool). x.0) xs) ≡ true
    → P (first_number xs) ≡ true
unfolding first_number every_in
first_number-passes P z [] h = z
first_number-passes P z ((x, true) ∷ xs) h = (both_true (P x) (every_in P (map (λ (y : ℕ × Bool). y.0) xs)) h).0
first_number-passes P z ((x, false) ∷ xs) h =
    first_number-passes P z xs (both_true (P x) (every_in P (map (λ (y : ℕ × Bool). y.0) xs)) h).1

-- ---- Read and Check

pub refusal-uses : (s : List ℕ) → IsOneOf (refusal s) read_numbers
unfolding refusal every_in memb
refusal-uses s = first_number-passes (λ x. memb x read_numbers) refl (sheet_conditions s) refl

pub read_of-uses : (s : List ℕ) → IsOneOf (read_of s).number read_numbers
read_of-uses s = subst (λ (x : ℕ). IsOneOf x read_numbers) (sym (read_of-number s)) (refusal-uses s)

pub check_of-uses : (s d b : List ℕ) → IsOneOf (check_of s d b) check_numbers
unfolding check_of number_on every_in memb
check_of-uses s d b =
    first_number-passes (λ x. memb x check_numbers) refl (check_conditions false s d b) refl

-- ---- the order of the table

pub read-order : (s : List ℕ) → InTableOrder (sheet_conditions s)
unfolding in_order_of
read-order s = refl

pub check-order : (s d b : List ℕ) → InTableOrder (check_conditions false s d b)
unfolding in_order_of
check-order s d b = refl

pub call-order : (c : Call) (i : Inputs) → InTableOrder (conditions c i)
unfolding in_order_of
call-order (Route h) i = refl
call-order (Least h) i = refl
call-order Refit i = refl

-- ---- number_before

pub number_before-uses : (c : Call) (i : Inputs) → IsOneOf (number_before c i) (numbers_of c)
unfolding number_before every_in memb
number_before-uses (Route h) i = first_number-passes (λ x. memb x (numbers_of (Route h))) refl (conditions (Route h) i) refl
number_before-uses (Least h) i = first_number-passes (λ x. memb x (numbers_of (Least h))) refl (conditions (Least h) i) refl
number_before-uses Refit i = first_number-passes (λ x. memb x (numbers_of Refit)) refl (conditions Refit i) refl

-- neither 15 nor 16
abbrev early : ℕ → Bool
early x = not (memb x (unroutable_no ∷ spent_no ∷ []))

number_before-early : (c : Call) (i : Inputs) → early (number_before c i) ≡ true
unfolding number_before every_in memb
number_before-early (Route h) i = first_number-passes early refl (conditions (Route h) i) refl
number_before-early (Least h) i = first_number-passes early refl (conditions (Least h) i) refl
number_before-early Refit i = first_number-passes early refl (conditions Refit i) refl

module _ (c : Call) (i : Inputs) where
  pub number_before-not-unroutable : number_before c i ≢ unroutable_no
  unfolding memb
  number_before-not-unroutable e = true≢false (sym (subst (λ (x : ℕ). early x ≡ true) e (number_before-early c i)))

  pub number_before-not-spent : number_before c i ≢ spent_no
  unfolding memb
  number_before-not-spent e = true≢false (sym (subst (λ (x : ℕ). early x ≡ true) e (number_before-early c i)))

module _ (i : Inputs) where
  pub space-zero : first_number (out_conditions i) ≡ 0 → EnoughSpace i
  space-zero e = at (dec_le (entry_count (nets_in i)) (length i.out))
    where
      at : Dec (entry_count (nets_in i) ≤ length i.out) → EnoughSpace i
      at (yes l) = l
      at (no l) = absurd (omega (arith, space-short (entry_count (nets_in i)) (length i.out) (omega arith)))

  pub zero-space : EnoughSpace i → first_number (out_conditions i) ≡ 0
  zero-space = space-room (entry_count (nets_in i)) (length i.out)

-- 19 and 20 of what is lent
abbrev pub dead_number : Inputs → ℕ
dead_number i = list_number (channels_of i.sheet) i.dead

-- the conditions of the list, of Refit's old assignment, and those behind the list's
abbrev pub dead_conditions : Inputs → List (ℕ × Bool)
dead_conditions i = list_conditions (channels_of i.sheet) i.dead

abbrev pub old_conditions : Inputs → List (ℕ × Bool)
old_conditions i = ticket_conditions true (board_in i) (width_in i) (nets_in i) i.old

abbrev pub later_conditions : Call → Inputs → List (ℕ × Bool)
later_conditions (Route h) i = out_conditions i
later_conditions (Least h) i = out_conditions i
later_conditions Refit i = old_conditions i ++ out_conditions i

-- the sheet's, the list's, and these
conditions-parts : (c : Call) (i : Inputs) → conditions c i ≡ sheet_conditions i.sheet ++ (dead_conditions i ++ later_conditions c i)
conditions-parts (Route h) i = refl
conditions-parts (Least h) i = refl
conditions-parts Refit i = refl

later-zero : (c : Call) (i : Inputs) → first_number (later_conditions c i) ≡ 0 → EnoughSpace i
later-zero (Route h) i e = space-zero i e
later-zero (Least h) i e = space-zero i e
later-zero Refit i e = space-zero i (first_number-both (old_conditions i) (out_conditions i) refl e).1

module _ (c : Call) (i : Inputs) where
  -- of a refused sheet
  pub number_before-refused : refusal i.sheet ≢ 0 → number_before c i ≡ refusal i.sheet
  unfolding number_before refusal
  number_before-refused n =
      ap first_number (conditions-parts c i) ∙ first_number-before (sheet_conditions i.sheet) (dead_conditions i ++ later_conditions c i) refl n

  -- of an accepted sheet
  pub number_before-accepted : WellFormed i.sheet → number_before c i ≡ first_number (dead_conditions i ++ later_conditions c i)
  unfolding number_before refusal
  number_before-accepted a =
      ap first_number (conditions-parts c i) ∙ first_number-rest (sheet_conditions i.sheet) (dead_conditions i ++ later_conditions c i) refl a

  -- the list's number, else that of what comes behind it
  pub number_before-or : WellFormed i.sheet → number_before c i ≡ or_number (dead_number i) (first_number (later_conditions c i))
  unfolding list_number
  number_before-or a =
      number_before-accepted a
      ∙ first_number-append (dead_conditions i) (later_conditions c i) refl

  pub number_before-list : WellFormed i.sheet → dead_number i ≢ 0 → number_before c i ≡ dead_number i
  number_before-list a n = number_before-or a ∙ or_number-first _ _ n

  pub number_before-later : WellFormed i.sheet → dead_number i ≡ 0 → number_before c i ≡ first_number (later_conditions c i)
  number_before-later a n = number_before-or a ∙ or_number-second _ _ n

  -- no number applies: the sheet and the list are accepted, and none of the later conditions holds
  pub number_before-clear : number_before c i ≡ 0 → WellFormed i.sheet × (dead_number i ≡ 0) × (first_number (later_conditions c i) ≡ 0)
  unfolding number_before refusal list_number
  number_before-clear e =
      let z =
      first_number-both (sheet_conditions i.sheet) (dead_conditions i ++ later_conditions c i) refl (sym (ap first_number (conditions-parts c i)) ∙ e) in
      let r = first_number-both (dead_conditions i) (later_conditions c i) refl z.1 in
      (z.0, r.0, r.1)

  -- and there is enough space
  pub number_before-zero : number_before c i ≡ 0 → WellFormed i.sheet × EnoughSpace i
  number_before-zero e = let z = number_before-clear e in (z.0, later-zero c i z.2)

-- none of the numbers 10 to 13 and 21 refuses the old assignment
pub number_before-old : (i : Inputs) → number_before Refit i ≡ 0 → first_number (old_conditions i) ≡ 0
number_before-old i e = (first_number-both (old_conditions i) (out_conditions i) refl (number_before-clear Refit i e).2).0
