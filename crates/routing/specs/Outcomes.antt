-- The outcomes of Route, Least and Refit: number, width, trials, moved, and the whole content of the output (01 "The job", "Words for no").
-- Definitions only; laws: proofs/OutcomeLaws.antt, proofs/RefusalLaws.antt. Assumes nothing.
use Rattle.std.specs.Prelude.{ℕ, zero, suc, List, ◌∷◌, ◌++◌, map, Bool, true, false, not, ltb, length, drop}
use Rattle.numbers.specs.Numbers.{first_number, unroutable_no, spent_no, stranger_no, space_conditions}
use Rattle.bounded.specs.Lists.{memb}
use Rattle.backtracking.specs.Search.{Outcome, found, not_found, trials}
use Rattle.switchbox.specs.SwitchBox.{connected}
use Rattle.net.specs.Net.{Net}
use Rattle.net.specs.Nets.{entry_count}
use Rattle.netlist.specs.Netlist.{sheet_conditions, width_of, channels_of, connected_on, nets, refusal}
use Rattle.rank.specs.Rank.{rising}
use Rattle.defects.specs.Defects.{is_dead, bad_list, repeated_item, list_conditions}
use Rattle.assignment.specs.Board.{Board, board_of}
use Rattle.assignment.specs.Assignment.{wrong_size, track_out_of_range, not_switched, broken_wire, wire_conflict, track_conditions, clash_conditions}
use Rattle.assignment.specs.Check.{check_conditions}
use Rattle.netsearch.specs.HomeTrack.{byte_of, assignment_from}
use Rattle.netsearch.specs.declared.Search.{Search}
use Rattle.netsearch.specs.declared.Search.TheVariants.{Plain}
use Rattle.netsearch.specs.PlainSearch.{plain_search, at_width, least_search}
use Rattle.netsearch.specs.Refit.{refit_search, moves_in}
use Rattle.routing.specs.declared.Answer.{Answer}
use Rattle.routing.specs.declared.Call.{Call}
use Rattle.routing.specs.declared.Call.TheVariants.{Route, Least, Refit}

-- ---- the calls and what they are lent

-- the calls of 01: Route and Least by the plain search
abbrev pub route : Call
route = Route Plain

abbrev pub least : Call
least = Least Plain

abbrev pub refit : Call
refit = Refit

-- the sheet, the list of dead wires (02, M-105), the old assignment, the budget, and the output as it is before the call; Route and Least are
-- lent no old assignment
pub record Inputs : Type 0 where
  pub sheet : List ℕ
  pub dead : List ℕ
  pub old : List ℕ
  pub budget : ℕ
  pub out : List ℕ

abbrev pub lent : List ℕ → List ℕ → List ℕ → ℕ → List ℕ → Inputs
lent s dead old budget out = record { sheet = s; dead = dead; old = old; budget = budget; out = out }

-- the same inputs but for the budget, but for the sheet, and but for the list
abbrev pub with_budget : Inputs → ℕ → Inputs
with_budget i budget = record { sheet = i.sheet; dead = i.dead; old = i.old; budget = budget; out = i.out }

abbrev pub with_sheet : Inputs → List ℕ → Inputs
with_sheet i s = record { sheet = s; dead = i.dead; old = i.old; budget = i.budget; out = i.out }

abbrev pub with_dead : Inputs → List ℕ → Inputs
with_dead i d = record { sheet = i.sheet; dead = d; old = i.old; budget = i.budget; out = i.out }

-- the width W of the sheet, its nets, its board without the wires of the list, and the old byte of a net number on a channel
abbrev pub width_in : Inputs → ℕ
width_in i = width_of i.sheet

abbrev pub nets_in : Inputs → List Net
nets_in i = nets i.sheet

abbrev pub board_in : Inputs → Board
board_in i = board_of i.sheet i.dead

abbrev pub old_byte : Inputs → ℕ → ℕ → ℕ
old_byte i = byte_of (nets_in i) i.old

-- ---- the whole runs, without a budget: the width and the home tracks found, and all trials made

-- the search h at the width w
abbrev pub search_at : Search → Inputs → ℕ → Outcome (List ℕ)
search_at h i w = plain_search h (board_in i) w (nets_in i)

-- Route: "the first right ticket at the sheet's width W". Least: "the smallest width from 1 to 32 that has a right ticket, and the first
-- ticket there. It reads no W but the check on it." Refit: "a full ticket from a partly filled old one". That what these runs find is so:
-- theorems; specs/Results.antt says it.
unfoldable pub run : Call → Inputs → Outcome (ℕ × List ℕ)
unfolding at_width plain_search least_search refit_search byte_of nets connected is_dead
run (Route h) i = at_width (width_in i) (search_at h i (width_in i))
run (Least h) i = least_search h (board_in i) (nets_in i)
run Refit i = at_width (width_in i) (refit_search (old_byte i) (board_in i) (width_in i) (nets_in i))

-- 01: moved. How many placed nets the home tracks hs, in rising net number, give another home track; "moved is 0 outside Refit"
unfoldable pub moved_by : Call → Inputs → List ℕ → ℕ
unfolding moves_in byte_of rising nets
moved_by (Route h) i hs = 0
moved_by (Least h) i hs = 0
moved_by Refit i hs = moves_in (old_byte i) (rising (nets_in i)) hs

-- ---- the numbers before any trial: those of each call with their conditions, in the order of the table; those of Check: its specs/Check.antt

-- 14 space: "output shorter than the entry count"
abbrev pub out_conditions : Inputs → List (ℕ × Bool)
out_conditions i = space_conditions (entry_count (nets_in i)) (length i.out)

-- "Route and Least 1–9 and 14–16, Refit all" of 1–16, and each 18 (02, M-102), 19 and 20, "both between 9 and 10", Refit 21 (02, M-105).
-- "Refit's 12 and 13 look at placed nets", and so does 21.
abbrev pub conditions : Call → Inputs → List (ℕ × Bool)
conditions (Route h) i = sheet_conditions i.sheet ++ list_conditions (channels_of i.sheet) i.dead ++ out_conditions i
conditions (Least h) i = sheet_conditions i.sheet ++ list_conditions (channels_of i.sheet) i.dead ++ out_conditions i
conditions Refit i = check_conditions true i.sheet i.dead i.old ++ out_conditions i

-- 17 stranger: "a number that the sheet lacks"
unfoldable pub unknown_net : List Net → ℕ → Bool
unfolding memb
unknown_net ns x = not (memb x (map (λ (n : Net). n.number) ns))

-- Remove (02, M-100) of the net number x: 10 to 13 as Refit tests its old ticket, without 21, since it is lent no list; "17 (stranger), after 13
-- and before 14"
abbrev pub remove_conditions : Inputs → ℕ → List (ℕ × Bool)
remove_conditions i x =
    sheet_conditions i.sheet
    ++ track_conditions true (board_in i) (width_in i) (nets_in i) i.old
    ++ clash_conditions true (nets_in i) i.old
    ++ ((stranger_no, unknown_net (nets_in i) x) ∷ out_conditions i)

-- the first that applies, in the order of the table; 0 where none does
unfoldable pub number_before : Call → Inputs → ℕ
unfolding first_number refusal bad_list repeated_item is_dead wrong_size track_out_of_range not_switched broken_wire wire_conflict entry_count nets connected
number_before c i = first_number (conditions c i)

-- ---- the answer and the output

-- "Numbers 1–14 come with every other result 0"; "Numbers from 17 on come, like 1–14, with every other result 0." (02, M-100)
abbrev pub refused : ℕ → Answer
refused x = record { number = x; width = 0; trials = 0; moved = 0 }

-- 15 unroutable: nothing was found; "With 15, trials is the count made". "Number 0 is success; width is then W (Least: the width found)",
-- and `moved hs` nets have moved
unfoldable pub finished : (List ℕ → ℕ) → Outcome (ℕ × List ℕ) → Answer
finished moved (found x c) = record { number = 0; width = x.0; trials = c; moved = moved x.1 }
finished moved (not_found c) = record { number = unroutable_no; width = 0; trials = c; moved = 0 }

-- '"Spent" comes exactly if the whole run needs more trials than the budget'
abbrev pub needs_more : ℕ → Outcome (ℕ × List ℕ) → Bool
needs_more budget o = ltb budget (trials o)

-- 16 spent: "with 16 it is the budget; width and moved are 0"
unfoldable pub answer : ℕ → ℕ → (List ℕ → ℕ) → Outcome (ℕ × List ℕ) → Answer
unfolding finished
answer (suc x) budget moved o = refused (suc x)
answer zero budget moved o =
    elim (needs_more budget o) [
      | true ↦ record { number = spent_no; width = 0; trials = budget; moved = 0 }
      | false ↦ finished moved o
    ]

-- the bytes b "from the start of the output; later bytes keep their values"
unfoldable pub overwrite : List ℕ → List ℕ → List ℕ
overwrite b out = b ++ drop (length b) out

unfoldable pub written_by : List ℕ → Outcome (ℕ × List ℕ) → List ℕ → List ℕ
unfolding overwrite assignment_from nets connected
written_by s (found x c) out = overwrite (assignment_from (connected_on s x.0) (nets s) x.1) out
written_by s (not_found c) out = out

-- "No refusal writes."
unfoldable pub output : ℕ → ℕ → List ℕ → Outcome (ℕ × List ℕ) → List ℕ → List ℕ
unfolding written_by
output (suc x) budget s o out = out
output zero budget s o out = elim (needs_more budget o) [ true ↦ out | false ↦ written_by s o out ]

-- number, width, trials and moved of a call
unfoldable pub answer_of : Call → Inputs → Answer
unfolding answer number_before moved_by run
answer_of c i = answer (number_before c i) i.budget (moved_by c i) (run c i)

-- the whole output after it
unfoldable pub output_of : Call → Inputs → List ℕ
unfolding output number_before run
output_of c i = output (number_before c i) i.budget i.sheet (run c i) i.out
