-- Standard forms by hand: the definitions of specs/Canonical.antt computed on small sheets. Assumes nothing.
use mathlib.Core.Path.{◌≡◌, refl}
use Prim.Native.Nat.{ℕ}
use mathlib.Core.List.{List, [], ◌∷◌, ◌++◌}
use Rattle.net.specs.Net.{u16_at, net_of}
use Rattle.netlist.specs.Netlist.{trailer_of, rows_of, record_part, record_bytes, nets}
use Rattle.routing.specs.MarkedCases.{record2, trailer, trailer4}
use Rattle.routing.proofs.Example.{sheet_v, sheet_v2}
use Rattle.canonical.specs.Canonical.{canonical_net, canonical_form}

-- ---- where breadth first, depth first and the lowest channel of all differ

-- net 7 is the chain 2–4–0–1–6, listed from channel 2 on, then net 3 {5, 0}; kind 0, W 2
abbrev pub chain : List ℕ
chain =
    (7 ∷ 0 ∷ 5 ∷ 0 ∷ 2 ∷ 0 ∷ 0xFF ∷ 0xFF ∷ 4 ∷ 0 ∷ 0 ∷ 0 ∷ 0 ∷ 0 ∷ 1 ∷ 0 ∷ 1 ∷ 0 ∷ 2 ∷ 0 ∷ 6 ∷ 0 ∷ 3 ∷ 0 ∷ [])
    ++ record2 3 5 0 0
    ++ (0 ∷ 0 ∷ 24 ∷ 0 ∷ [])
    ++ trailer 0 2 2 36 52

-- net 3 first, from its home 0; net 7 from its home 0, then 1 and 4, 2 behind 4, and 6 behind 1
pub form-chain : canonical_form chain
    ≡ record2 3 0 5 0
    ++ (7 ∷ 0 ∷ 5 ∷ 0 ∷ 0 ∷ 0 ∷ 0xFF ∷ 0xFF ∷ 1 ∷ 0 ∷ 0 ∷ 0 ∷ 4 ∷ 0 ∷ 0 ∷ 0 ∷ 2 ∷ 0 ∷ 2 ∷ 0 ∷ 6 ∷ 0 ∷ 1 ∷ 0 ∷ [])
    ++ (0 ∷ 0 ∷ 12 ∷ 0 ∷ [])
    ++ trailer 0 2 2 36 52
unfolding canonical_form canonical_net nets trailer_of u16_at net_of record_bytes record_part
form-chain = refl

-- ---- two relistings

-- sheet_v lists net 7 {3, 4, 17} with the joints 3–4 and 3–17, then net 2 {4, 17}; sheet_v2 the same nets from channel 17 on. The form of both:
abbrev pub form_v : List ℕ
form_v =
    record2 2 4 17 0
    ++ (7 ∷ 0 ∷ 3 ∷ 0 ∷ 3 ∷ 0 ∷ 0xFF ∷ 0xFF ∷ 4 ∷ 0 ∷ 0 ∷ 0 ∷ 17 ∷ 0 ∷ 0 ∷ 0 ∷ [])
    ++ (0 ∷ 0 ∷ 12 ∷ 0 ∷ [])
    ++ trailer4 1 3 2 28 44

pub form-V : canonical_form sheet_v ≡ form_v
unfolding canonical_form canonical_net nets trailer_of u16_at net_of record_bytes record_part
form-V = refl

pub form-V2 : canonical_form sheet_v2 ≡ form_v
unfolding canonical_form canonical_net nets trailer_of u16_at net_of record_bytes record_part
form-V2 = refl

-- ---- one joint differs

-- net 1 {0, 1, 5}, W 3, with the joints 0–1 and 1–5, and with 0–5 and 5–1
abbrev pub sheet_a : List ℕ
sheet_a = (1 ∷ 0 ∷ 3 ∷ 0 ∷ 0 ∷ 0 ∷ 0xFF ∷ 0xFF ∷ 1 ∷ 0 ∷ 0 ∷ 0 ∷ 5 ∷ 0 ∷ 1 ∷ 0 ∷ []) ++ (0 ∷ 0 ∷ []) ++ trailer 0 3 1 16 30

abbrev pub sheet_b : List ℕ
sheet_b = (1 ∷ 0 ∷ 3 ∷ 0 ∷ 0 ∷ 0 ∷ 0xFF ∷ 0xFF ∷ 5 ∷ 0 ∷ 0 ∷ 0 ∷ 1 ∷ 0 ∷ 1 ∷ 0 ∷ []) ++ (0 ∷ 0 ∷ []) ++ trailer 0 3 1 16 30

-- both are listed so already: the second entry's channel is 1 in one form and 5 in the other, which has the lower one behind it
pub form-A : canonical_form sheet_a ≡ sheet_a
unfolding canonical_form canonical_net nets trailer_of u16_at net_of record_bytes record_part
form-A = refl

pub form-B : canonical_form sheet_b ≡ sheet_b
unfolding canonical_form canonical_net nets trailer_of u16_at net_of record_bytes record_part
form-B = refl

-- ---- the rows of kind 3 stay

-- the shifts 5, −1, −32, 31, −2 and 7, each behind its sign
abbrev pub rows3 : List ℕ
rows3 = 0 ∷ 5 ∷ 1 ∷ 0xFF ∷ 1 ∷ 0xE0 ∷ 0 ∷ 31 ∷ 1 ∷ 0xFE ∷ 0 ∷ 7 ∷ []

-- net 7 {5, 0, 1} with the joints 5–0 and 0–1, listed from channel 5 on, then net 2 {5, 1}; W 3
abbrev pub sheet3 : List ℕ
sheet3 =
    (7 ∷ 0 ∷ 3 ∷ 0 ∷ 5 ∷ 0 ∷ 0xFF ∷ 0xFF ∷ 0 ∷ 0 ∷ 0 ∷ 0 ∷ 1 ∷ 0 ∷ 1 ∷ 0 ∷ [])
    ++ record2 2 5 1 0
    ++ (0 ∷ 0 ∷ 16 ∷ 0 ∷ [])
    ++ rows3
    ++ trailer 3 3 2 28 56

-- net 2 first, both nets from their homes; the rows as they were, between directory and trailer
pub form-3 : canonical_form sheet3
    ≡ record2 2 1 5 0
    ++ (7 ∷ 0 ∷ 3 ∷ 0 ∷ 0 ∷ 0 ∷ 0xFF ∷ 0xFF ∷ 1 ∷ 0 ∷ 0 ∷ 0 ∷ 5 ∷ 0 ∷ 0 ∷ 0 ∷ [])
    ++ (0 ∷ 0 ∷ 12 ∷ 0 ∷ [])
    ++ rows3
    ++ trailer 3 3 2 28 56
unfolding canonical_form canonical_net nets trailer_of rows_of u16_at net_of record_bytes record_part
form-3 = refl

-- ---- no nets: the trailer alone, which stays as it is

pub form-none : canonical_form (trailer 0 2 0 0 12) ≡ trailer 0 2 0 0 12
unfolding canonical_form canonical_net nets trailer_of u16_at net_of record_bytes record_part
form-none = refl
