-- Remove: taking a net out (02, M-100): its number, the whole content of the output, and what they are to mean. It is lent a sheet, "a ticket
-- as Refit reads one" in the place of the old one, an output and a net number x; nothing it does reads the budget
-- or a list of dead wires: "Calls on a sheet, other than … M-100 …, also take a list" (02, M-105).
-- Definitions only; laws: proofs/RemoveLaws.antt, proofs/RemoveTheorems.antt. Assumes nothing.
use Rattle.std.specs.Prelude.{◌≡◌, ◌↔◌, ◌≢◌, ℕ, zero, suc, ◌+◌, ◌<◌, List, [], Bool, cond, eqb, length, get_or}
use Rattle.numbers.specs.Numbers.{first_number, stranger_no}
use Rattle.bounded.specs.Bounded.{build, joined}
use Rattle.switchbox.specs.SwitchBox.{connected}
use Rattle.net.specs.Net.{Net, size}
use Rattle.net.specs.Nets.{entry_count, net_in}
use Rattle.netlist.specs.Netlist.{WellFormed, width_of, nets, refusal}
use Rattle.nettracks.specs.NetTracks.{no_track}
use Rattle.assignment.specs.Assignment.{first_byte, tracks_of, track_at, Unrouted, Routed, PartlyLegalAt, wrong_size, track_out_of_range, not_switched, wire_conflict}
use Rattle.routing.specs.Outcomes.{Inputs, with_dead, nets_in, unknown_net, remove_conditions, overwrite}
use Rattle.routing.specs.Results.{PartlyLegalFor, assignment_in}
use Rattle.routing.specs.Equivalent.{Equivalent, SameBytes, SameOldTracks, EnoughSpace}

-- the first number that applies; 0 where none does
unfoldable pub remove_number : Inputs → ℕ → ℕ
unfolding first_number refusal wrong_size track_out_of_range not_switched wire_conflict unknown_net entry_count nets connected
remove_number i x = first_number (remove_conditions i x)

-- ---- the output

-- the byte t of a net: 255 where the net is taken out
abbrev pub left_of : Bool → ℕ → ℕ
left_of taken t = cond taken no_track t

-- the byte for entry i of net k, where the net number x is taken out of b
abbrev pub left_at : List Net → ℕ → List ℕ → ℕ → ℕ → ℕ
left_at ns x b k i = left_of (eqb (net_in ns k).number x) (track_at ns b k i)

-- "the ticket with that net's bytes 255 and all others as before": net after net, entry after entry
unfoldable pub without : List Net → ℕ → List ℕ → List ℕ
unfolding joined build tracks_of
without ns x b = joined (length ns) (λ k. build (size (net_in ns k)) (left_at ns x b k))

-- the whole output after it: "No refusal writes. Success writes exactly the entry count of bytes"
unfoldable pub remove_output : Inputs → ℕ → List ℕ
unfolding remove_number overwrite without
remove_output i x = elim (remove_number i x) [ zero ↦ overwrite (without (nets_in i) x i.old) i.out | suc n ↦ i.out ]

-- ---- what they are to mean

-- a net has the number x
abbrev pub HasNet : List Net → ℕ → Type 0
HasNet ns x = (k : ℕ) × (k < length ns) × ((net_in ns k).number ≡ x)

-- when success comes and when 17: "It refuses a number that the sheet lacks with 17 (stranger), after 13", of a ticket that is right for its
-- placed nets, whatever wires are broken, "and before 14", whatever the space
pub record RemovesExactly (i : Inputs) (x n : ℕ) : Type 0 where
  pub zero : (n ≡ 0)
      ↔ (WellFormed i.sheet × PartlyLegalFor (with_dead i []) i.old × HasNet (nets_in i) x × EnoughSpace i)
  pub stranger : (n ≡ stranger_no)
      ↔ (WellFormed i.sheet × PartlyLegalFor (with_dead i []) i.old × (HasNet (nets_in i) x → ⊥))

-- "that net's bytes 255 and all others as before": every byte of d, where the net number x is taken out of b
pub record TakenOut (ns : List Net) (x : ℕ) (b d : List ℕ) : Type 0 where
  pub sized : length d ≡ entry_count ns
  pub own : (k i : ℕ) → k < length ns → i < size (net_in ns k) → (net_in ns k).number ≡ x → get_or d (first_byte ns k + i) 0 ≡ no_track
  pub others : (k i : ℕ) → k < length ns → i < size (net_in ns k) → (net_in ns k).number ≢ x
      → get_or d (first_byte ns k + i) 0 ≡ get_or b (first_byte ns k + i) 0

-- "Of such a ticket demand 2 speaks for the placed nets alone.": d, where the net number x is taken out of b, on the sheet s
pub record LeftLegal (s : List ℕ) (x : ℕ) (b d : List ℕ) : Type 0 where
  pub legal : PartlyLegalAt s [] (width_of s) d
  -- its placed nets are those of b without this one, each with the same tracks
  pub routed : (k : ℕ) → k < length (nets s) → Routed (nets s) d k ↔ (Routed (nets s) b k × ((net_in (nets s) k).number ≢ x))
  pub tracks : (k : ℕ) → k < length (nets s) → Routed (nets s) d k → tracks_of (nets s) d k ≡ tracks_of (nets s) b k

-- "Refit placed just one new net": of the nets ns in b, just the one of the number x is unplaced
pub record OneUnrouted (ns : List Net) (b : List ℕ) (x : ℕ) : Type 0 where
  pub index : ℕ
  pub below : index < length ns
  pub number : (net_in ns index).number ≡ x
  pub own : Unrouted ns b index
  pub others : (k : ℕ) → k < length ns → k ≢ index → Routed ns b k

-- what Remove is lent twice: relistings with equal tracks, as Refit's old ones, and enough space, whatever the lists and budgets
pub record RemoveRelisting (i j : Inputs) : Type 0 where
  pub sheets : Equivalent i.sheet j.sheet
  pub space : EnoughSpace i
  pub space2 : EnoughSpace j
  pub tracks : SameOldTracks i j

-- on two relistings: the same number, and on success the same byte for each net number and channel; the numbers m and n, with the outputs
-- `after` and `after2`
pub record SameRemoved (i j : Inputs) (m n : ℕ) (after after2 : List ℕ) : Type 0 where
  pub numbers : m ≡ n
  pub bytes : m ≡ 0 → SameBytes i.sheet j.sheet (assignment_in i after) (assignment_in j after2)
