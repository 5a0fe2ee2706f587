-- When each number of every call that reads a sheet comes, by meaning and in both directions, and what Read and Record give (00, demand 1; 01 "The
-- job", "Words for no"). Definitions only; that they hold: proofs/Exactly.antt. Assumes nothing.
use Rattle.std.specs.Prelude.{◌≡◌, ◌⊎◌, ℕ, List, ◌∷◌, ◌++◌, true, false, length}
use Rattle.numbers.specs.Numbers.{unroutable_no, spent_no, stranger_no}
use Rattle.numbers.specs.Meanings.{Meanings, GivenExactly, space_meanings}
use Rattle.net.specs.Nets.{entry_count}
use Rattle.netlist.specs.Meanings.{sheet_meanings}
use Rattle.reader.specs.Read.{read_of, record_of}
use Rattle.reader.specs.Meanings.{ReadExactly, RecordExactly}
use Rattle.assignment.specs.Meanings.{track_meanings, clash_meanings, check_meanings, list_meanings}
use Rattle.routing.specs.Outcomes.{Inputs, width_in, nets_in, board_in}
use Rattle.routing.specs.Remove.{HasNet}
use Rattle.routing.specs.declared.Call.TheVariants.{Route, Least, Refit}
use Rattle.demands.specs.SheetCalls.{SheetCall, read, check, search, remove, standard, number_given}

-- 14 space: "output shorter than the entry count"
abbrev pub out_meanings : Inputs → Meanings
out_meanings i = space_meanings (entry_count (nets_in i)) (length i.out)

-- what each of the numbers of a call means, in the order of its conditions (specs/SheetCalls.antt); 14 of Standard: "The output needs the sheet's own length" (02, M-101)
abbrev pub meanings_of : SheetCall → Inputs → Meanings
meanings_of read i = sheet_meanings i.sheet
meanings_of check i = check_meanings false i.sheet i.dead i.old
meanings_of (search (Route h)) i = sheet_meanings i.sheet ++ list_meanings i.sheet i.dead ++ out_meanings i
meanings_of (search (Least h)) i = sheet_meanings i.sheet ++ list_meanings i.sheet i.dead ++ out_meanings i
meanings_of (search Refit) i = check_meanings true i.sheet i.dead i.old ++ out_meanings i
meanings_of (remove x) i =
    sheet_meanings i.sheet
    ++ track_meanings true (board_in i) (width_in i) (nets_in i) i.old
    ++ clash_meanings true (nets_in i) i.old
    ++ ((stranger_no, HasNet (nets_in i) x → ⊥) ∷ out_meanings i)
meanings_of standard i = sheet_meanings i.sheet ++ space_meanings (length i.sheet) (length i.out)

-- the numbers that come where none of these does: 0, and after trials 15 and 16
abbrev pub PastTests : SheetCall → ℕ → Type 0
PastTests read n = n ≡ 0
PastTests check n = n ≡ 0
PastTests (search c) n = (n ≡ 0) ⊎ ((n ≡ unroutable_no) ⊎ (n ≡ spent_no))
PastTests (remove x) n = n ≡ 0
PastTests standard n = n ≡ 0

-- when the call gives each number, by meaning: the number n
abbrev pub GivesExactly : SheetCall → Inputs → ℕ → Type 0
GivesExactly a i n = GivenExactly (PastTests a) (meanings_of a i) n

pub record Exactly : Type 0 where
  -- each number comes exactly if it applies and none before it does, 10 to 14, 17 and 21 in terms of bytes, joints, wires, nets and lengths, 18 of
  -- signs and shifts, 19 and 20 of items, 1 to 9 as 01's table says it
  pub numbers : (a : SheetCall) (i : Inputs) → GivesExactly a i (number_given a i)
  -- "An accepted sheet is one that Read answers with 0.", Read: "a sheet's net count and entry count"; Record: "A refused sheet, or a place not below
  -- the net count, gives the empty part; no record is empty.", 01
  pub reads : (s : List ℕ) → ReadExactly s (read_of s)
  pub records : (s : List ℕ) (k : ℕ) → RecordExactly s k (record_of s k)
