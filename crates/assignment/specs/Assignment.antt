-- Track assignments, 01: ticket (01 "The ticket"): when one is legal, 01: right, now without the broken wires (02, M-105), and the conditions
-- of the numbers 10 to 13 and 21.
-- Definitions only; laws: proofs/AssignmentLaws.antt. Assumes nothing.
use Rattle.std.specs.Prelude.{◌≡◌, ℕ, ◌<◌, List, [], ◌∷◌, ◌++◌, Bool, true, false, not, ◌||◌, eqb, length, get_or, take, drop}
use Rattle.numbers.specs.Numbers.{size_no, track_no, switch_no, broken_no, clash_no}
use Rattle.bounded.specs.Bounded.{every}
use Rattle.grid.specs.Grid.{Wire, same_wire}
use Rattle.net.specs.Net.{Net, size}
use Rattle.net.specs.Nets.{entry_count, net_in}
use Rattle.netlist.specs.Netlist.{nets}
use Rattle.nettracks.specs.NetTracks.{wire_at, in_range, connected_at, switched, whole_wires, unrouted, skipped}
use Rattle.assignment.specs.Board.{Board, board_of}

-- "One byte per entry, the track: each net's bytes stand together, net after net in the sheet's order."
-- where the bytes of net k start, its tracks, and the track and the wire of its entry i
unfoldable pub first_byte : List Net → ℕ → ℕ
unfolding entry_count
first_byte ns k = entry_count (take k ns)

unfoldable pub tracks_of : List Net → List ℕ → ℕ → List ℕ
unfolding first_byte
tracks_of ns b k = take (size (net_in ns k)) (drop (first_byte ns k) b)

abbrev pub track_at : List Net → List ℕ → ℕ → ℕ → ℕ
track_at ns b k i = get_or (tracks_of ns b k) i 0

abbrev pub wire_in : List Net → List ℕ → ℕ → ℕ → Wire
wire_in ns b k i = wire_at (net_in ns k) (tracks_of ns b k) i

-- 01: right, on a board at the width w, of the nets at the indices that are chosen
pub record LegalAmong (Chosen : ℕ → Type 0) (board : Board) (w : ℕ) (ns : List Net) (b : List ℕ) : Type 0 where
  -- "one byte per entry"
  pub whole : length b ≡ entry_count ns
  -- "every byte is below W"
  pub below : (k i : ℕ) → k < length ns → Chosen k → i < size (net_in ns k) → track_at ns b k i < w
  -- "every joint's two tracks are partners in the box where the channels meet"
  pub joined : (k i : ℕ) → k < length ns → Chosen k → 0 < i → i < size (net_in ns k)
      → track_at ns b k i ≡ connected_at (board.partner w) (net_in ns k) (tracks_of ns b k) i
  -- "A right ticket … now" means "without these wires" (02, M-105)
  pub unbroken : (k i : ℕ) → k < length ns → Chosen k → i < size (net_in ns k) → board.broken (wire_in ns b k i) ≡ false
  -- "no wire is held by two nets"
  pub alone : (k l i j : ℕ) → k < length ns → l < length ns → Chosen k → Chosen l → i < size (net_in ns k) → j < size (net_in ns l)
      → wire_in ns b k i ≡ wire_in ns b l j → k ≡ l

-- 01: right, of all nets
abbrev pub Legal : Board → ℕ → List Net → List ℕ → Type 0
Legal = LegalAmong (λ k. Unit {0})

-- "Right at a width means right by the rule above, with that width for W there and in the box table.": on the sheet s with the list d of dead
-- wires. "Items at or above the width in use … are ignored" (02, M-105): every byte is below w.
abbrev pub LegalAt : List ℕ → List ℕ → ℕ → List ℕ → Type 0
LegalAt s d w b = Legal (board_of s d) w (nets s) b

-- 01: unplaced and placed, of net k
abbrev pub Unrouted : List Net → List ℕ → ℕ → Type 0
Unrouted ns b k = unrouted (tracks_of ns b k) ≡ true

abbrev pub Routed : List Net → List ℕ → ℕ → Type 0
Routed ns b k = unrouted (tracks_of ns b k) ≡ false

-- "Of such a ticket demand 2 speaks for the placed nets alone." (02, M-100): a partly filled assignment, legal for its routed nets
abbrev pub PartlyLegalAt : List ℕ → List ℕ → ℕ → List ℕ → Type 0
PartlyLegalAt s d w b = LegalAmong (Routed (nets s) b) (board_of s d) w (nets s) b

-- ---- the test of two nets n and m with the tracks ts and us

-- 13: entry i of n and entry j of m, with the tracks ts and us, are not one wire
unfoldable pub wires_differ : Net → List ℕ → Net → List ℕ → ℕ → ℕ → Bool
wires_differ n ts m us i j = not (same_wire (wire_at n ts i) (wire_at m us j))

unfoldable pub no_wire_shared : Net → List ℕ → Net → List ℕ → Bool
unfolding every wires_differ
no_wire_shared n ts m us = every (size n) (λ i. every (size m) (wires_differ n ts m us i))

-- ---- the conditions of the numbers 10 to 13 and 21; where `partial` is true, as Refit reads its old ticket, an unrouted net is not looked at

-- every net that is looked at passes
unfoldable pub every_net : Bool → (Net → List ℕ → Bool) → List Net → List ℕ → Bool
unfolding every skipped tracks_of
every_net partial test ns b =
    every (length ns) (λ k. skipped partial (tracks_of ns b k) || test (net_in ns k) (tracks_of ns b k))

-- nets k and l, if both are looked at, share no wire
unfoldable pub no_conflict : Bool → List Net → List ℕ → ℕ → ℕ → Bool
unfolding skipped tracks_of no_wire_shared
no_conflict partial ns b k l =
    skipped partial (tracks_of ns b k)
    || skipped partial (tracks_of ns b l)
    || no_wire_shared (net_in ns k) (tracks_of ns b k) (net_in ns l) (tracks_of ns b l)

-- 10 size: "ticket length is not the entry count"
unfoldable pub wrong_size : List Net → List ℕ → Bool
unfolding entry_count
wrong_size ns b = not (eqb (length b) (entry_count ns))

-- 11 track: "byte not below W (Refit: unless the net is unplaced)"
unfoldable pub track_out_of_range : Bool → ℕ → List Net → List ℕ → Bool
unfolding every_net in_range
track_out_of_range partial w ns b = not (every_net partial (in_range w) ns b)

-- 12 switch: "a joint's tracks are not partners"
unfoldable pub not_switched : Bool → (ℕ → ℕ → ℕ → ℕ) → List Net → List ℕ → Bool
unfolding every_net switched
not_switched partial partner ns b = not (every_net partial (switched partner) ns b)

-- 21 broken: "a ticket on a broken wire" (02, M-105); of the nets that are looked at, as 11 to 13
unfoldable pub broken_wire : Bool → (Wire → Bool) → List Net → List ℕ → Bool
unfolding every_net whole_wires
broken_wire partial broken ns b = not (every_net partial (whole_wires broken) ns b)

-- 13 clash: "a wire held by two nets"
unfoldable pub wire_conflict : Bool → List Net → List ℕ → Bool
unfolding every no_conflict
wire_conflict partial ns b = not (every (length ns) (λ k. every k (no_conflict partial ns b k)))

-- 10 to 12 and 13, each with its condition, in the order of the table
abbrev pub track_conditions : Bool → Board → ℕ → List Net → List ℕ → List (ℕ × Bool)
track_conditions partial board w ns b =
    (size_no, wrong_size ns b) ∷
    (track_no, track_out_of_range partial w ns b) ∷
    (switch_no, not_switched partial (board.partner w) ns b) ∷
    []

abbrev pub clash_conditions : Bool → List Net → List ℕ → List (ℕ × Bool)
clash_conditions partial ns b = (clash_no, wire_conflict partial ns b) ∷ []

-- beside a list of dead wires, 21 "between 12 and 13" (02, M-105)
abbrev pub ticket_conditions : Bool → Board → ℕ → List Net → List ℕ → List (ℕ × Bool)
ticket_conditions partial board w ns b =
    track_conditions partial board w ns b ++ ((broken_no, broken_wire partial board.broken ns b) ∷ clash_conditions partial ns b)
