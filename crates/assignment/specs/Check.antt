-- The outcome of Check (01 "The job"). Definitions only; its theorem: proofs/CheckLaws.antt. Assumes nothing.
use Rattle.std.specs.Prelude.{ℕ, List, ◌++◌, Bool, false}
use Rattle.numbers.specs.Numbers.{first_number}
use Rattle.switchbox.specs.SwitchBox.{connected}
use Rattle.netlist.specs.Netlist.{width_of, channels_of, nets, refusal, sheet_conditions}
use Rattle.defects.specs.Defects.{is_dead, bad_list, repeated_item, list_conditions}
use Rattle.assignment.specs.Board.{board_of}
use Rattle.assignment.specs.Assignment.{wrong_size, track_out_of_range, not_switched, broken_wire, wire_conflict, ticket_conditions}

-- "Check 1–13", 18 (02, M-102), and 19 to 21 (02, M-105), in the order of the table: of the sheet s, of the list d of dead wires for its
-- channels, and of the ticket b; where `partial` is true, as Refit reads its old one
abbrev pub check_conditions : Bool → List ℕ → List ℕ → List ℕ → List (ℕ × Bool)
check_conditions partial s d b =
    sheet_conditions s ++ list_conditions (channels_of s) d ++ ticket_conditions partial (board_of s d) (width_of s) (nets s) b

-- the first that applies; 0 where none does
unfoldable pub number_on : Bool → List ℕ → List ℕ → List ℕ → ℕ
unfolding first_number refusal bad_list repeated_item is_dead wrong_size track_out_of_range not_switched broken_wire wire_conflict nets connected
number_on partial s d b = first_number (check_conditions partial s d b)

-- Check: "whether a ticket is right for a sheet", now with a list of dead wires; "Check a number alone"
unfoldable pub check_of : List ℕ → List ℕ → List ℕ → ℕ
unfolding number_on
check_of s d b = number_on false s d b
