-- Standard: sheets in standard form (02, M-101): the call's number, the whole content of its output, and what they are to mean. It is lent a
-- sheet s and an output. Definitions only; laws: proofs/StandardTheorems.antt, proofs/SameTheorems.antt, proofs/OnlyTheorems.antt. Assumes nothing.
use Rattle.std.specs.Prelude.{◌≡◌, ◌↔◌, ◌≢◌, ℕ, zero, suc, ◌≤◌, ◌<◌, List, [], ◌∷◌, ◌++◌, Bool, true, length, get_or, take}
use Rattle.numbers.specs.Numbers.{first_number, space_no, space_conditions}
use Rattle.net.specs.Net.{Net, size, channel, parent, edge}
use Rattle.net.specs.Nets.{net_in}
use Rattle.netlist.specs.Netlist.{sheet_conditions, WellFormed, mark_of, grid_of, SameKind, width_of, nets, refusal}
use Rattle.netsearch.specs.HomeTrack.{home}
use Rattle.routing.specs.Outcomes.{overwrite}
use Rattle.routing.specs.Results.{WrittenTo, read_numbers}
use Rattle.routing.specs.Equivalent.{SameNets}
use Rattle.canonical.specs.Canonical.{canonical_form}

-- ---- the number and the output

-- 1 to 9 and 18; "The output needs the sheet's own length, else 14."
abbrev pub standard_conditions : List ℕ → List ℕ → List (ℕ × Bool)
standard_conditions s out = sheet_conditions s ++ space_conditions (length s) (length out)

unfoldable pub standard_number : List ℕ → List ℕ → ℕ
unfolding first_number refusal
standard_number s out = first_number (standard_conditions s out)

-- the whole output after it: "No refusal writes." (01)
unfoldable pub standard_output : List ℕ → List ℕ → List ℕ
unfolding standard_number overwrite canonical_form
standard_output s out = elim (standard_number s out) [ zero ↦ overwrite (canonical_form s) out | suc n ↦ out ]

abbrev pub standard_numbers : List ℕ
standard_numbers = read_numbers ++ (14 ∷ [])

-- ---- what they are to mean

-- when success comes, "any accepted sheet", and when 14; a sheet that is refused has Read's number
pub record StandardExactly (s out : List ℕ) (n : ℕ) : Type 0 where
  pub zero : (n ≡ 0) ↔ (WellFormed s × (length s ≤ length out))
  pub read : refusal s ≢ 0 → n ≡ refusal s
  pub short : (n ≡ space_no) ↔ (WellFormed s × (length out < length s))

-- the number n, and the output `after` it: on success the standard form, as long as the sheet, and nothing else
pub record FormWritten (s out : List ℕ) (n : ℕ) (after : List ℕ) : Type 0 where
  pub written : WrittenTo (length s) out n after
  pub form : n ≡ 0 → take (length s) after ≡ canonical_form s

-- the channel c is "not yet written", and has "a joint to a written one", that of entry j, where the first k entries of n are written
pub record Follows (n : Net) (k c j : ℕ) : Type 0 where
  pub fresh : (i : ℕ) → i < k → channel n i ≢ c
  pub before : j < k
  pub joint : edge n c (channel n j) ≡ true

-- the entries of a net
pub record InTreeOrder (n : Net) : Type 0 where
  -- "each tree starts at the net's home"
  pub start : channel n 0 ≡ home n
  -- "Each next entry is the lowest-numbered channel not yet written that has a joint to a written one, and that one is its parent."
  pub next : (k : ℕ) → 0 < k → k < size n → Follows n k (channel n k) (parent n k)
  pub lowest : (k c j : ℕ) → 0 < k → k < size n → Follows n k c j → channel n k ≤ c

-- "nets stand in rising number and each tree" so
pub record InCanonicalOrder (ns : List Net) : Type 0 where
  pub rising : (k l : ℕ) → k < l → l < length ns → (net_in ns k).number < (net_in ns l).number
  pub trees : (k : ℕ) → k < length ns → InTreeOrder (net_in ns k)

-- a list of bytes
abbrev pub Bytes : List ℕ → Type 0
Bytes b = (k : ℕ) → get_or b k 0 < 256

-- "Two accepted sheets of the same chip, kind and W"; 02, M-106: "equality is claimed between sheets of one mark"
pub record SameFrame (s t : List ℕ) : Type 0 where
  pub accepted : WellFormed s
  pub accepted2 : WellFormed t
  pub grid : grid_of s ≡ grid_of t
  pub kind : SameKind s t
  pub width : width_of s ≡ width_of t
  pub mark : mark_of s ≡ mark_of t

-- they "have the same nets, channels and joints exactly if their standard forms are equal bytes": the bytes a and b
abbrev pub SameExactly : List ℕ → List ℕ → List ℕ → List ℕ → Type 0
SameExactly s t a b = SameNets (nets s) (nets t) ↔ (a ≡ b)
