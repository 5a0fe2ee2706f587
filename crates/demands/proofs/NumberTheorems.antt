-- When each number of every call that reads a sheet comes, by meaning (specs/Exactly.antt): its conditions mean what is said of them, and its number is
-- that of the first that holds. Assumes nothing.
use mathlib.Core.Path.{◌≡◌, refl, sym, subst, ◌∙◌}
use mathlib.Core.Logic.{◌≢◌, inl, inr}
use Prim.Native.Nat.{ℕ}
use mathlib.Core.List.{List, [], ◌∷◌, ◌++◌}
use mathlib.Core.Bool.{Bool, true, false, true≢false}
use lib.ListN.{length}
use Rattle.bounded.specs.Lists.{memb}
use Rattle.numbers.specs.Numbers.{first_number, stranger_no, unroutable_no, spent_no, space_conditions}
use Rattle.numbers.specs.Meanings.{Meanings, numbers_in, space_meanings}
use Rattle.numbers.proofs.NumbersLaws.{numbered}
use Rattle.numbers.proofs.MeaningLaws.{Means, means-append, space-means, once, Apart, means-exactly}
use Rattle.net.specs.Nets.{entry_count}
use Rattle.netlist.specs.Netlist.{sheet_conditions, refusal, channels_of}
use Rattle.netlist.specs.Meanings.{sheet_meanings}
use Rattle.netlist.proofs.MeaningLaws.{sheet-means}
use Rattle.reader.proofs.MeaningLaws.{read_of-number}
use Rattle.defects.specs.Defects.{list_conditions}
use Rattle.assignment.specs.Assignment.{track_conditions, clash_conditions}
use Rattle.assignment.specs.Check.{check_conditions, number_on, check_of}
use Rattle.assignment.specs.Meanings.{list_meanings, track_meanings, clash_meanings, check_meanings}
use Rattle.assignment.proofs.MeaningLaws.{list-means, track-means, clash-means, check-means}
use Rattle.routing.specs.declared.Call.{Call}
use Rattle.routing.specs.declared.Call.TheVariants.{Route, Least, Refit}
use Rattle.routing.specs.Outcomes.{Inputs, width_in, nets_in, board_in, unknown_net, number_before}
use Rattle.routing.specs.Remove.{remove_number, HasNet}
use Rattle.routing.proofs.BudgetTheorems.{call-refused}
use Rattle.routing.proofs.RemoveLaws.{unknown_net-true}
use Rattle.canonical.specs.Standard.{standard_number}
use Rattle.demands.specs.SheetCalls.{SheetCall, read, check, search, remove, standard, conditions_of, number_given}
use Rattle.demands.specs.Exactly.{meanings_of, PastTests, GivesExactly}

-- ---- the conditions and their meanings

-- conditions that mean what is said of them
record Meant : Type 1 where
  pub conditions : List (ℕ × Bool)
  pub meanings : Meanings
  pub mean : (B : Type 0) → Means B conditions meanings

-- others behind them
abbrev ◌then◌ : Meant → Meant → Meant
t then u = record {
  conditions = t.conditions ++ u.conditions;
  meanings = t.meanings ++ u.meanings;
  mean = means-append t.conditions u.conditions t.meanings u.meanings t.mean u.mean;
}

infixr 5 ◌then◌
module _ (i : Inputs) where
  abbrev sheet : Meant
  sheet = record { conditions = sheet_conditions i.sheet; meanings = sheet_meanings i.sheet; mean = sheet-means i.sheet }

  abbrev list : Meant
  list = record {
    conditions = list_conditions (channels_of i.sheet) i.dead;
    meanings = list_meanings i.sheet i.dead;
    mean = list-means i.sheet i.dead;
  }

  -- of the sheet, the list and the ticket
  abbrev all : Bool → Meant
  all partial = record {
    conditions = check_conditions partial i.sheet i.dead i.old;
    meanings = check_meanings partial i.sheet i.dead i.old;
    mean = check-means partial i.sheet i.dead i.old;
  }

  -- of Remove's ticket
  abbrev tracks : Meant
  tracks = record {
    conditions = track_conditions true (board_in i) (width_in i) (nets_in i) i.old;
    meanings = track_meanings true (board_in i) (width_in i) (nets_in i) i.old;
    mean = track-means true (board_in i) (width_in i) (nets_in i) i.old;
  }

  abbrev clash : Meant
  clash = record {
    conditions = clash_conditions true (nets_in i) i.old;
    meanings = clash_meanings true (nets_in i) i.old;
    mean = clash-means true (board_in i) (width_in i) (nets_in i) i.old;
  }

  abbrev stranger : ℕ → Meant
  stranger x = record {
    conditions = (stranger_no, unknown_net (nets_in i) x) ∷ [];
    meanings = (stranger_no, HasNet (nets_in i) x → ⊥) ∷ [];
    mean = λ B. (refl, (λ b. unknown_net-true (nets_in i) x), tt);
  }

  abbrev space : ℕ → Meant
  space needed = record {
    conditions = space_conditions needed (length i.out);
    meanings = space_meanings needed (length i.out);
    mean = space-means needed (length i.out);
  }

  abbrev out : Meant
  out = space (entry_count (nets_in i))

means : (a : SheetCall) (i : Inputs) (B : Type 0) → Means B (conditions_of a i) (meanings_of a i)
means read i = (sheet i).mean
means check i = (all i false).mean
means (search (Route h)) i = (sheet i then list i then out i).mean
means (search (Least h)) i = (sheet i then list i then out i).mean
means (search Refit) i = (all i true then out i).mean
means (remove x) i = (sheet i then tracks i then clash i then stranger i x then out i).mean
means standard i = (sheet i then space i (length i.sheet)).mean

-- ---- the number

-- the number of a call is that of the first condition that holds, and where none does, one that comes past the tests; none of those has a condition
module _ (a : SheetCall) (i : Inputs) where
  abbrev numbers : List ℕ
  numbers = numbers_in (meanings_of a i)

  by_first : numbered (conditions_of a i) ≡ true → once numbers ≡ true → Apart (PastTests a) numbers
      → (first_number (conditions_of a i) ≢ 0 → number_given a i ≡ first_number (conditions_of a i))
      → (first_number (conditions_of a i) ≡ 0 → PastTests a (number_given a i)) → GivesExactly a i (number_given a i)
  by_first h o A = means-exactly (PastTests a) (conditions_of a i) (meanings_of a i) (means a i) h o A (number_given a i)

  without : (y : ℕ) → memb y numbers ≡ false → (x : ℕ) → memb x numbers ≡ true → x ≡ y → ⊥
  without y n x m e = true≢false (sym m ∙ subst (λ (z : ℕ). memb z numbers ≡ false) (sym e) n)

past-trials : (c : Call) (i : Inputs) → memb 0 (numbers (search c) i) ≡ false → memb unroutable_no (numbers (search c) i) ≡ false
    → memb spent_no (numbers (search c) i) ≡ false → Apart (PastTests (search c)) (numbers (search c) i)
past-trials c i p q r x m (inl e) = without (search c) i 0 p x m e
past-trials c i p q r x m (inr (inl e)) = without (search c) i unroutable_no q x m e
past-trials c i p q r x m (inr (inr e)) = without (search c) i spent_no r x m e

pub exactly : (a : SheetCall) (i : Inputs) → GivesExactly a i (number_given a i)
unfolding memb refusal check_of number_on number_before remove_number standard_number
exactly read i =
    let e = read_of-number i.sheet in by_first read i refl refl (without read i 0 refl) (λ n. e) (λ z. e ∙ z)
exactly check i = by_first check i refl refl (without check i 0 refl) (λ n. refl) (λ z. z)
exactly (search (Route h)) i =
    let R = call-refused (Route h) i in by_first (search (Route h)) i refl refl (past-trials (Route h) i refl refl refl) R.before R.after
exactly (search (Least h)) i =
    let R = call-refused (Least h) i in by_first (search (Least h)) i refl refl (past-trials (Least h) i refl refl refl) R.before R.after
exactly (search Refit) i =
    let R = call-refused Refit i in by_first (search Refit) i refl refl (past-trials Refit i refl refl refl) R.before R.after
exactly (remove x) i = by_first (remove x) i refl refl (without (remove x) i 0 refl) (λ n. refl) (λ z. z)
exactly standard i = by_first standard i refl refl (without standard i 0 refl) (λ n. refl) (λ z. z)
