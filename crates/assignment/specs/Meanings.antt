-- The numbers 19 and 20 of a list of dead wires, and 10 to 13 and 21 of a ticket, by what they mean: in terms of items, bytes, tracks, joints and wires
-- (01 "Words for no"; 02, M-105). Definitions only; that the conditions mean this: proofs/MeaningLaws.antt. Assumes nothing.
use Rattle.std.specs.Prelude.{◌≡◌, ◌≢◌, ℕ, ◌≤◌, ◌<◌, List, [], ◌∷◌, ◌++◌, Bool, true, false, length}
use Rattle.numbers.specs.Numbers.{list_no, repeat_no, size_no, track_no, switch_no, broken_no, clash_no}
use Rattle.numbers.specs.Meanings.{Meanings}
use Rattle.grid.specs.Grid.{Wire}
use Rattle.net.specs.Net.{Net, size}
use Rattle.net.specs.Nets.{entry_count, net_in}
use Rattle.netlist.specs.Netlist.{width_of, channels_of, nets}
use Rattle.netlist.specs.Meanings.{sheet_meanings}
use Rattle.nettracks.specs.NetTracks.{connected_at}
use Rattle.defects.specs.Defects.{KnownItems, NoRepeat}
use Rattle.assignment.specs.Board.{Board, board_of}
use Rattle.assignment.specs.Assignment.{tracks_of, track_at, wire_in, Routed}

-- 19 list: "a list not of whole items, an unknown channel or a track over 31"; 20 repeat: "a repeated wire": on the sheet s
abbrev pub list_meanings : List ℕ → List ℕ → Meanings
list_meanings s d = (list_no, KnownItems (channels_of s) d → ⊥) ∷ (repeat_no, NoRepeat d → ⊥) ∷ []

-- net k is looked at: every net is; where `partial` is true, as Refit reads its old ticket, the placed ones: "Refit's 12 and 13 look at placed nets"
abbrev pub LookedAt : Bool → List Net → List ℕ → ℕ → Type 0
LookedAt false ns b k = Unit {0}
LookedAt true ns b k = Routed ns b k

-- net k is looked at and has an entry i
pub record EntryOf (partial : Bool) (ns : List Net) (b : List ℕ) (k i : ℕ) : Type 0 where
  pub net : k < length ns
  pub looked : LookedAt partial ns b k
  pub entry : i < size (net_in ns k)

-- 10 size: "ticket length is not the entry count"
abbrev pub WrongSize : List Net → List ℕ → Type 0
WrongSize ns b = length b ≢ entry_count ns

-- 11 track: "byte not below W (Refit: unless the net is unplaced)"
abbrev pub HighTrack : Bool → ℕ → List Net → List ℕ → Type 0
HighTrack partial w ns b = (k i : ℕ) × EntryOf partial ns b k i × (w ≤ track_at ns b k i)

-- 12 switch: "a joint's tracks are not partners": the joint of entry i and its parent
abbrev pub OpenJoint : Bool → (ℕ → ℕ → ℕ → ℕ) → List Net → List ℕ → Type 0
OpenJoint partial partner ns b =
    (k i : ℕ) × EntryOf partial ns b k i × (0 < i) × (track_at ns b k i ≢ connected_at partner (net_in ns k) (tracks_of ns b k) i)

-- 21 broken: "a ticket on a broken wire"
abbrev pub OnBroken : Bool → (Wire → Bool) → List Net → List ℕ → Type 0
OnBroken partial broken ns b = (k i : ℕ) × EntryOf partial ns b k i × (broken (wire_in ns b k i) ≡ true)

-- 13 clash: "a wire held by two nets"
abbrev pub SharedWire : Bool → List Net → List ℕ → Type 0
SharedWire partial ns b =
    (k l i j : ℕ) × EntryOf partial ns b k i × EntryOf partial ns b l j × (k ≢ l) × (wire_in ns b k i ≡ wire_in ns b l j)

-- 10 to 12 and 13, in the order of the table; beside a list of dead wires, 21 "between 12 and 13" (02, M-105)
abbrev pub track_meanings : Bool → Board → ℕ → List Net → List ℕ → Meanings
track_meanings partial board w ns b =
    (size_no, WrongSize ns b) ∷ (track_no, HighTrack partial w ns b) ∷ (switch_no, OpenJoint partial (board.partner w) ns b) ∷ []

abbrev pub clash_meanings : Bool → List Net → List ℕ → Meanings
clash_meanings partial ns b = (clash_no, SharedWire partial ns b) ∷ []

abbrev pub ticket_meanings : Bool → Board → ℕ → List Net → List ℕ → Meanings
ticket_meanings partial board w ns b =
    track_meanings partial board w ns b ++ ((broken_no, OnBroken partial board.broken ns b) ∷ clash_meanings partial ns b)

-- of the sheet s, of the list d of dead wires and of the ticket b
abbrev pub check_meanings : Bool → List ℕ → List ℕ → List ℕ → Meanings
check_meanings partial s d b = sheet_meanings s ++ list_meanings s d ++ ticket_meanings partial (board_of s d) (width_of s) (nets s) b
