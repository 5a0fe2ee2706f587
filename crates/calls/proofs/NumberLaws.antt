-- The numbers before any trial (routing's specs/Outcomes.antt). Assumes nothing.
-- number-lent: they do not look at the budget. number-later: those of the sheet and the list come first. later-old, later-space: then that of the old
-- assignment, then that of the output. number-old: with 0, no number refuses the old assignment.
use mathlib.Core.Path.{◌≡◌, refl, sym, ◌∙◌}
use mathlib.Core.Logic.{◌≢◌}
use Prim.Native.Nat.{ℕ}
use mathlib.Core.List.{◌++◌}
use Rattle.numbers.specs.Numbers.{first_number}
use Rattle.numbers.proofs.NumbersLaws.{or_number, or_number-first, or_number-second, or_number-zero, first_number-append}
use Rattle.netlist.specs.Netlist.{sheet_conditions}
use Rattle.defects.specs.Defects.{is_dead}
use Rattle.assignment.specs.Facts.{assignment_number}
use Rattle.routing.specs.declared.Call.{Call}
use Rattle.routing.specs.declared.Call.TheVariants.{Route, Least, Refit}
use Rattle.routing.specs.Outcomes.{Inputs, lent, out_conditions, number_before}
use Rattle.routing.proofs.RefusalLaws.{later_conditions, number_before-clear, dead_conditions, old_conditions}
use Rattle.runs.specs.Runs.{old_number}

pub number-lent : (c : Call) (i : Inputs) → number_before c (lent i.sheet i.dead i.old 0 i.out) ≡ number_before c i
unfolding number_before
number-lent (Route h) i = refl
number-lent (Least h) i = refl
number-lent Refit i = refl

pub number-later : (c : Call) (i : Inputs) → number_before c i ≡ first_number (sheet_conditions i.sheet ++ (dead_conditions i ++ later_conditions c i))
unfolding number_before
number-later (Route h) i = refl
number-later (Least h) i = refl
number-later Refit i = refl

-- the number of the old assignment
abbrev old_of : Call → Inputs → ℕ
old_of c i = old_number c i.sheet (is_dead i.dead) i.old

later-or : (c : Call) (i : Inputs) → first_number (later_conditions c i) ≡ or_number (old_of c i) (first_number (out_conditions i))
unfolding assignment_number
later-or (Route h) i = sym (or_number-second 0 (first_number (out_conditions i)) refl)
later-or (Least h) i = sym (or_number-second 0 (first_number (out_conditions i)) refl)
later-or Refit i = first_number-append (old_conditions i) (out_conditions i) refl

pub later-old : (c : Call) (i : Inputs) → old_of c i ≢ 0 → first_number (later_conditions c i) ≡ old_of c i
later-old c i n = later-or c i ∙ or_number-first (old_of c i) (first_number (out_conditions i)) n

pub later-space : (c : Call) (i : Inputs) → old_of c i ≡ 0 → first_number (later_conditions c i) ≡ first_number (out_conditions i)
later-space c i e = later-or c i ∙ or_number-second (old_of c i) (first_number (out_conditions i)) e

pub number-old : (c : Call) (i : Inputs) → number_before c i ≡ 0 → old_of c i ≡ 0
number-old c i e = (or_number-zero (old_of c i) (first_number (out_conditions i)) (sym (later-or c i) ∙ (number_before-clear c i e).2)).0
