-- Equivalent netlists, 01: relistings, and equal old tracks (01 "What demand 3 compares"). Definitions only. Assumes nothing.
use Rattle.std.specs.Prelude.{◌≡◌, ◌↔◌, ℕ, ◌-◌, ◌≤◌, List, length, take}
use Rattle.net.specs.Net.{Net, has, edge}
use Rattle.net.specs.Nets.{entry_count, In}
use Rattle.netlist.specs.Netlist.{WellFormed, trailer_length, grid_of, fabric_of, SameKind, width_of, net_count, directory_of, nets}
use Rattle.defects.specs.Defects.{SameItems}
use Rattle.netsearch.specs.HomeTrack.{byte_of, SameTracks}
use Rattle.routing.specs.declared.Answer.{Answer}
use Rattle.routing.specs.declared.Call.{Call}
use Rattle.routing.specs.declared.Call.TheVariants.{Route, Least, Refit}
use Rattle.routing.specs.Outcomes.{Inputs, nets_in}
use Rattle.routing.specs.Results.{LegalFor, assignment_in}

-- "the net numbers are the same, and under each net number the channels are the same and the joints, as pairs in either order, are the same"
pub record SameNets (ns ms : List Net) : Type 0 where
  pub there : (n : Net) → In n ns → (m : Net) × In m ms × (n.number ≡ m.number)
  pub back : (m : Net) → In m ms → (n : Net) × In n ns × (n.number ≡ m.number)
  pub channels : (n m : Net) → In n ns → In m ms → n.number ≡ m.number → (c : ℕ) → has n c ≡ has m c
  pub edges : (n m : Net) → In n ns → In m ms → n.number ≡ m.number → (c d : ℕ) → edge n c d ≡ edge m c d

-- "Two accepted sheets are relistings of each other exactly when A, B, kind and W agree", and the nets; 02, M-102: the rows of kind 3 too
pub record Equivalent (s t : List ℕ) : Type 0 where
  pub accepted : WellFormed s
  pub accepted2 : WellFormed t
  pub grid : grid_of s ≡ grid_of t
  pub kind : SameKind s t
  pub width : width_of s ≡ width_of t
  pub same_nets : SameNets (nets s) (nets t)

-- accepted sheets that list the same on the same chip, kind and W: the same nets with the same entries in the same order, whatever the marks
-- (02, M-106)
pub record SameListing (s t : List ℕ) : Type 0 where
  pub accepted : WellFormed s
  pub accepted2 : WellFormed t
  pub fabric : fabric_of s ≡ fabric_of t
  pub width : width_of s ≡ width_of t
  pub listed : nets s ≡ nets t

-- "the same byte for each net number and channel": in the assignment a of s and the assignment b of t
abbrev pub SameBytes : List ℕ → List ℕ → List ℕ → List ℕ → Type 0
SameBytes s t a b = SameTracks (nets s) (byte_of (nets s) a) (byte_of (nets t) b)

-- "Old tracks are equal when both old tickets have one byte per entry and the same byte for each net number and channel."
pub record SameOldTracks (i j : Inputs) : Type 0 where
  pub whole : length i.old ≡ entry_count (nets_in i)
  pub whole2 : length j.old ≡ entry_count (nets_in j)
  pub same : SameBytes i.sheet j.sheet i.old j.old

-- "for Refit, equal old tracks"
abbrev pub OldTracksFor : Call → Inputs → Inputs → Type 0
OldTracksFor (Route h) i j = Unit {0}
OldTracksFor (Least h) i j = Unit {0}
OldTracksFor Refit i j = SameOldTracks i j

-- "Space is enough when the output is not shorter than the entry count."
abbrev pub EnoughSpace : Inputs → Type 0
EnoughSpace i = entry_count (nets_in i) ≤ length i.out

-- "On two relistings with one budget, enough space and, for Refit, equal old tracks", "under the same list" (02, M-105), its items in any
-- order: what a call c is lent twice
pub record Relisting (c : Call) (i j : Inputs) : Type 0 where
  pub sheets : Equivalent i.sheet j.sheet
  pub dead : SameItems i.dead j.dead
  pub budget : i.budget ≡ j.budget
  pub space : EnoughSpace i
  pub space2 : EnoughSpace j
  pub old : OldTracksFor c i j

-- "the number, width, trials and moved are equal, whatever the number is; on success the two tickets also have the same byte for each net
-- number and channel": the answers a and b, with the outputs `after` and `after2`
pub record SameOutcome (i j : Inputs) (a b : Answer) (after after2 : List ℕ) : Type 0 where
  pub answers : a ≡ b
  pub bytes : a.number ≡ 0 → SameBytes i.sheet j.sheet (assignment_in i after) (assignment_in j after2)

-- legal assignments at the width w correspond: those with the same bytes are legal for both or for none, and each of either has one of the
-- other with the same bytes
pub record SameLegal (i j : Inputs) (w : ℕ) : Type 0 where
  pub alike : (a b : List ℕ) → SameBytes i.sheet j.sheet a b → length a ≡ entry_count (nets_in i) → length b ≡ entry_count (nets_in j)
      → LegalFor i w a ↔ LegalFor j w b
  pub there : (a : List ℕ) → LegalFor i w a → (b : List ℕ) × LegalFor j w b × SameBytes i.sheet j.sheet a b
  pub back : (b : List ℕ) → LegalFor j w b → (a : List ℕ) × LegalFor i w a × SameBytes i.sheet j.sheet a b

-- Least "reads no W but the check on it": sheets with the same bytes before the trailer, and the same trailer but for W (and the
-- mark, which can differ only where there are no nets)
pub record SameButWidth (s t : List ℕ) : Type 0 where
  pub sized : length s ≡ length t
  pub before : take (length s - trailer_length) s ≡ take (length t - trailer_length) t
  pub fabric : fabric_of s ≡ fabric_of t
  pub count : net_count s ≡ net_count t
  pub directory : directory_of s ≡ directory_of t
