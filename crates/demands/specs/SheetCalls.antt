-- Every call that reads a sheet and gives a number, for what is promised of all of them: its conditions, its number, and the numbers that it uses.
-- (Record gives no number: a part.) Definitions only. Assumes nothing.
use Rattle.std.specs.Prelude.{ℕ, List, false, Bool}
use Rattle.netlist.specs.Netlist.{sheet_conditions}
use Rattle.reader.specs.Read.{read_of}
use Rattle.assignment.specs.Check.{check_conditions, check_of}
use Rattle.routing.specs.Outcomes.{Inputs, conditions, answer_of, remove_conditions}
use Rattle.routing.specs.Remove.{remove_number}
use Rattle.routing.specs.Results.{read_numbers, check_numbers, numbers_of, remove_numbers}
use Rattle.routing.specs.declared.Call.{Call}
use Rattle.canonical.specs.Standard.{standard_conditions, standard_number, standard_numbers}

-- Read, Check, a search (Route, Least, Refit), Remove of a net number (02, M-100), Standard (02, M-101)
pub data SheetCall : Type 0 where
  read : SheetCall
  check : SheetCall
  search : Call → SheetCall
  remove : ℕ → SheetCall
  standard : SheetCall

-- the numbers before any trial with their conditions; Check is lent its ticket where Refit is lent the old one
abbrev pub conditions_of : SheetCall → Inputs → List (ℕ × Bool)
conditions_of read i = sheet_conditions i.sheet
conditions_of check i = check_conditions false i.sheet i.dead i.old
conditions_of (search c) i = conditions c i
conditions_of (remove x) i = remove_conditions i x
conditions_of standard i = standard_conditions i.sheet i.out

abbrev pub number_given : SheetCall → Inputs → ℕ
number_given read i = (read_of i.sheet).number
number_given check i = check_of i.sheet i.dead i.old
number_given (search c) i = (answer_of c i).number
number_given (remove x) i = remove_number i x
number_given standard i = standard_number i.sheet i.out

abbrev pub numbers_used : SheetCall → List ℕ
numbers_used read = read_numbers
numbers_used check = check_numbers
numbers_used (search c) = numbers_of c
numbers_used (remove x) = remove_numbers
numbers_used standard = standard_numbers
