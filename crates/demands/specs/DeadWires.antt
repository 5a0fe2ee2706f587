-- Promises of dead wires (02, M-105). Definitions only; that they hold: proofs/DeadWires.antt. Assumes nothing.
use Rattle.std.specs.Prelude.{◌≡◌, ◌↔◌, ℕ, ◌<◌, List, [], ◌∷◌, Bool, false, not, ltb, length}
use Rattle.numbers.specs.Numbers.{list_no, repeat_no}
use Rattle.bounded.specs.Bounded.{any_below}
use Rattle.bounded.specs.Lists.{every_in}
use Rattle.net.specs.Net.{Net, size}
use Rattle.net.specs.Nets.{entry_count, net_in}
use Rattle.netlist.specs.Netlist.{WellFormed, width_of, channels_of, connected_on, nets}
use Rattle.nettracks.specs.NetTracks.{connected_at}
use Rattle.defects.specs.Defects.{is_dead, AcceptedList, ListExactly, SameItems, SameBelow}
use Rattle.defects.specs.Facts.{list_number}
use Rattle.assignment.specs.Assignment.{tracks_of, track_at, wire_in, LegalAt, broken_wire}
use Rattle.assignment.specs.Check.{check_of}
use Rattle.assignment.specs.Board.{Board, with_broken}
use Rattle.netsearch.specs.HomeTrack.{wires_from}
use Rattle.netsearch.specs.PlainSearch.{density, over_capacity, held, fits}
use Rattle.netsearch.specs.declared.Search.{Search}
use Rattle.routing.specs.Outcomes.{Inputs, with_dead, answer_of, output_of}
use Rattle.routing.specs.Results.{PartlyLegalFor, IsNoneOf, ticket_numbers, RefusesList, last_width, LeastStops}
use Rattle.routing.specs.declared.Call.{Call}
use Rattle.routing.specs.declared.Call.TheVariants.{Least, Refit}

pub record DeadWires : Type 0 where
  -- ---- asked for

  -- "a list not of whole items, an unknown channel or a track over 31 with 19 (list), a repeated wire with 20 (repeat), both between 9 and 10": of
  -- the list alone, and of every call that is lent one
  pub list_exactly : (count : ℕ) (d : List ℕ) → ListExactly count d (list_number count d)
  pub check_list : (s d b : List ℕ) → RefusesList s d (check_of s d b)
  pub call_list : (c : Call) (i : Inputs) → RefusesList i.sheet i.dead (answer_of c i).number
  -- "Items at or above the width in use, in Least the width tried, are ignored but for 19 and 20": of two accepted lists only the wires below the
  -- width in use matter: W in Check, Route and Refit, in Least its own
  pub same_dead : (i : Inputs) (e : List ℕ) → AcceptedList (channels_of i.sheet) i.dead → AcceptedList (channels_of i.sheet) e
      → (c : Call) → SameBelow (last_width c i) i.dead e
      → (answer_of c i ≡ answer_of c (with_dead i e)) × (output_of c i ≡ output_of c (with_dead i e))
  -- which is the width found; with 15 all 32, with 16 the one at which the budget ran out
  pub least_stops : (h : Search) (i : Inputs) → LeastStops h i (answer_of (Least h) i)
  pub check_same_dead : (s d e b : List ℕ) → AcceptedList (channels_of s) d → AcceptedList (channels_of s) e → SameBelow (width_of s) d e
      → check_of s d b ≡ check_of s e b
  pub legal_same_dead : (s d e : List ℕ) (w : ℕ) (b : List ℕ) → SameBelow w d e → LegalAt s d w b ↔ LegalAt s e w b
  -- ---- ours

  -- the order of the items does not matter, whatever else is lent
  pub any_order : (i : Inputs) (e : List ℕ) → SameItems i.dead e → (c : Call)
      → (answer_of c i ≡ answer_of c (with_dead i e)) × (output_of c i ≡ output_of c (with_dead i e))
  pub check_any_order : (s d e b : List ℕ) → SameItems d e → check_of s d b ≡ check_of s e b
  -- Refit's list is accepted, and its ticket right for the placed nets without these wires, exactly where none of 19, 20, 10 to 13 and 21 comes
  pub refit_tests : (i : Inputs) → WellFormed i.sheet
      → IsNoneOf (answer_of Refit i).number (list_no ∷ repeat_no ∷ ticket_numbers)
      ↔ (AcceptedList (channels_of i.sheet) i.dead × PartlyLegalFor i i.old)
  pub refit_ticket : (i : Inputs) → WellFormed i.sheet → AcceptedList (channels_of i.sheet) i.dead
      → IsNoneOf (answer_of Refit i).number ticket_numbers ↔ PartlyLegalFor i i.old
  -- with the empty list none of 19 to 21 applies, a ticket is right exactly by 01's conditions, a track fits exactly if its wires are free, and a
  -- channel is overloaded exactly if it carries more nets than the width
  pub empty_list : (count : ℕ) → list_number count [] ≡ 0
  pub empty_broken : (partial : Bool) (ns : List Net) (b : List ℕ) → broken_wire partial (is_dead []) ns b ≡ false
  pub empty_legal : (s : List ℕ) (w : ℕ) (b : List ℕ) → LegalAt s [] w b
      ↔ ((length b ≡ entry_count (nets s))
      × ((k i : ℕ) → k < length (nets s) → i < size (net_in (nets s) k) → track_at (nets s) b k i < w)
      × ((k i : ℕ) → k < length (nets s) → 0 < i → i < size (net_in (nets s) k)
      → track_at (nets s) b k i ≡ connected_at (connected_on s w) (net_in (nets s) k) (tracks_of (nets s) b k) i)
      × ((k l i j : ℕ) → k < length (nets s) → l < length (nets s) → i < size (net_in (nets s) k) → j < size (net_in (nets s) l)
      → wire_in (nets s) b k i ≡ wire_in (nets s) b l j → k ≡ l))
  pub empty_fits : (board : Board) (w : ℕ) (ns : List Net) (p : List ℕ) (t : ℕ)
      → fits (with_broken board (is_dead [])) w ns p t
      ≡ every_in (λ v. not (held (board.partner w) ns p v)) (wires_from (board.partner w) (net_in ns (length p)) t)
  pub empty_over : (board : Board) (w : ℕ) (ns : List Net)
      → over_capacity (with_broken board (is_dead [])) w ns ≡ any_below board.channels (λ c. ltb w (density ns c))
