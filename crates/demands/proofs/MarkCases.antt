-- Inputs that meet the hypotheses about the two marks (02, M-106), and the long net numbers by hand. Assumes nothing.
use mathlib.Core.Path.{◌≡◌, refl, subst}
use Prim.Native.Nat.{ℕ}
use native.Mathlib.Omega.{arith}
use mathlib.Core.List.{List, [], ◌∷◌, ◌++◌, map}
use Rattle.bounded.specs.Lists.{every_in, memb, place, lowest}
use Rattle.grid.specs.Grid.{meeting}
use Rattle.net.specs.Net.{Net, long, u16_at, net_of}
use Rattle.net.specs.Nets.{entry_count}
use Rattle.netlist.specs.Netlist.{WellFormed, mark_of, trailer_of, rows_of, record_part, record_bytes, nets, refusal}
use Rattle.netlist.specs.Facts.{AsIn01, AsIn02}
use Rattle.reader.specs.Read.{part_of, record_of}
use Rattle.defects.proofs.DefectsLaws.{same_items-self}
use Rattle.assignment.specs.Assignment.{tracks_of}
use Rattle.encoding.specs.Encoding.{encode}
use Rattle.routing.specs.MarkedCases.{nets_t, sheet_t, O7}
use Rattle.routing.specs.Equivalent.{Equivalent, SameOutcome}
use Rattle.routing.specs.Outcomes.{route, least, lent, answer_of, output_of}
use Rattle.routing.specs.Remove.{remove_number, remove_output}
use Rattle.canonical.specs.Canonical.{canonical_net, canonical_form}
use Rattle.canonical.specs.Standard.{Bytes}
use Rattle.canonical.specs.Twins.{Twin, widened, widened_record}
use Rattle.demands.proofs.Demands.{demands}
use Rattle.demands.proofs.StandardCases.{bytes}

-- ---- T in both marks

-- a record of two entries: a net number of 32 bits, its channels, the second's parent
abbrev long2 : List ℕ → ℕ → ℕ → ℕ → List ℕ
long2 x c d p = x ++ (2 ∷ 0 ∷ c ∷ 0 ∷ 0xFF ∷ 0xFF ∷ d ∷ 0 ∷ p ∷ 0 ∷ [])

-- three such records and their directory; a trailer of a 3 by 2 grid of kind 0, with a last byte
abbrev three_marked : List ℕ → List ℕ → List ℕ → ℕ → ℕ → List ℕ
three_marked a b c w last =
    long2 a 0 1 0 ++ long2 b 1 5 0 ++ long2 c 0 5 0
    ++ (0 ∷ 0 ∷ 14 ∷ 0 ∷ 28 ∷ 0 ∷ [])
    ++ (3 ∷ 2 ∷ 0 ∷ w ∷ 3 ∷ 0 ∷ 42 ∷ 0 ∷ 60 ∷ 0 ∷ 0x57 ∷ last ∷ [])

-- marked 57 49
abbrev three : List ℕ → List ℕ → List ℕ → ℕ → List ℕ
three a b c w = three_marked a b c w 0x49

-- T, 01 "Sheets to try", with a W
abbrev long_t : ℕ → List ℕ
long_t w = three (1 ∷ 0 ∷ 0 ∷ 0 ∷ []) (2 ∷ 0 ∷ 0 ∷ 0 ∷ []) (3 ∷ 0 ∷ 0 ∷ 0 ∷ []) w

-- it is T's twin, and no other sheet is
accepted-T : WellFormed (sheet_t 0 2 0)
unfolding refusal meeting u16_at trailer_of net_of record_bytes
accepted-T = refl

widened-T : widened (sheet_t 0 2 0) ≡ long_t 2
unfolding widened encode nets trailer_of rows_of u16_at net_of record_bytes record_part
widened-T = refl

pub twin-T : Twin (sheet_t 0 2 0) (long_t 2)
unfolding mark_of
twin-T = subst (Twin (sheet_t 0 2 0)) widened-T (demands.marks.twin_there (sheet_t 0 2 0) accepted-T refl)

-- no other sheet is, and its second record has the bytes of T's, but for the number
only-T : long_t 2 ≡ widened (sheet_t 0 2 0)
unfolding every_in
only-T = demands.marks.twin_only (sheet_t 0 2 0) (long_t 2) twin-T (bytes (long_t 2) refl)

made-of-bytes : Bytes (widened (sheet_t 0 2 0))
unfolding mark_of every_in
made-of-bytes = demands.marks.twin_of_bytes (sheet_t 0 2 0) accepted-T refl (bytes (sheet_t 0 2 0) refl)

bytes-T : record_of (long_t 2) 1 ≡ widened_record (record_of (sheet_t 0 2 0) 1)
unfolding every_in trailer_of u16_at
bytes-T = demands.marks.twin_bytes (sheet_t 0 2 0) (long_t 2) twin-T (bytes (sheet_t 0 2 0) refl) (bytes (long_t 2) refl) 1 (omega arith)

-- where the fields of the second record stand under each mark
short-T : AsIn01 (sheet_t 0 2 0) 1
unfolding mark_of trailer_of u16_at
short-T = demands.marks.short_record (sheet_t 0 2 0) accepted-T refl 1 (omega arith)

long-T : AsIn02 (long_t 2) 1
unfolding trailer_of u16_at
long-T = demands.marks.long_record (long_t 2) twin-T.same.accepted2 twin-T.second 1 (omega arith)

-- they are relistings, of different marks: every promise about relistings covers them
relisted-T : Equivalent (sheet_t 0 2 0) (long_t 2)
relisted-T = demands.marks.twin_relisted (sheet_t 0 2 0) (long_t 2) twin-T

outcome-T : SameOutcome (lent (sheet_t 0 2 0) [] [] 16 O7) (lent (long_t 2) [] [] 16 O7)
    (answer_of least (lent (sheet_t 0 2 0) [] [] 16 O7)) (answer_of least (lent (long_t 2) [] [] 16 O7))
    (output_of least (lent (sheet_t 0 2 0) [] [] 16 O7)) (output_of least (lent (long_t 2) [] [] 16 O7))
unfolding nets trailer_of u16_at net_of record_bytes record_part entry_count
outcome-T = demands.demand3.relisted least (lent (sheet_t 0 2 0) [] [] 16 O7) (lent (long_t 2) [] [] 16 O7) (record {
  sheets = relisted-T;
  dead = same_items-self [];
  budget = refl;
  space = omega arith;
  space2 = omega arith;
  old = tt;
})

-- m6 on the twin, from the definitions
least-long : (answer_of least (lent (long_t 2) [] [] 16 O7) ≡ record { number = 0; width = 3; trials = 16; moved = 0 })
    × (output_of least (lent (long_t 2) [] [] 16 O7) ≡ 0 ∷ 0 ∷ 1 ∷ 1 ∷ 2 ∷ 2 ∷ 170 ∷ [])
unfolding answer_of output_of trailer_of u16_at net_of record_bytes record_part meeting tracks_of memb place lowest
least-long = (refl, refl)

-- its second record: 2 bytes longer, 2 bytes later
record-long : part_of (long_t 2) 1 ≡ record { offset = 14; len = 14 }
unfolding part_of trailer_of u16_at net_of record_bytes record_part meeting
record-long = refl

-- ---- net numbers that differ in their high halves alone

-- 65,537 first, then 1, then 67,305,985, whose bytes are 1, 2, 3 and 4
abbrev high : List ℕ
high = three (1 ∷ 0 ∷ 1 ∷ 0 ∷ []) (1 ∷ 0 ∷ 0 ∷ 0 ∷ []) (1 ∷ 2 ∷ 3 ∷ 4 ∷ []) 3

numbers-high : map (λ (n : Net). n.number) (nets high) ≡ 65537 ∷ 1 ∷ 67305985 ∷ []
unfolding nets trailer_of u16_at net_of record_bytes record_part
numbers-high = refl

-- accepted: these are three nets
accepted-high : WellFormed high
unfolding refusal meeting u16_at trailer_of net_of record_bytes
accepted-high = refl

-- in rising number net 1 is the first: its tracks are 0, those of 65,537 are 1
route-high : (answer_of route (lent high [] [] 6 O7) ≡ record { number = 0; width = 3; trials = 6; moved = 0 })
    × (output_of route (lent high [] [] 6 O7) ≡ 1 ∷ 1 ∷ 0 ∷ 0 ∷ 2 ∷ 2 ∷ 170 ∷ [])
unfolding answer_of output_of trailer_of u16_at net_of record_bytes record_part meeting tracks_of memb place lowest
route-high = (refl, refl)

-- Remove takes out the net with the whole number; 513, the low half of the third, is none
remove-high : (remove_number (lent high [] (1 ∷ 1 ∷ 0 ∷ 0 ∷ 2 ∷ 2 ∷ []) 0 O7) 65537 ≡ 0)
    × (remove_output (lent high [] (1 ∷ 1 ∷ 0 ∷ 0 ∷ 2 ∷ 2 ∷ []) 0 O7) 65537 ≡ 255 ∷ 255 ∷ 0 ∷ 0 ∷ 2 ∷ 2 ∷ 170 ∷ [])
    × (remove_number (lent high [] (1 ∷ 1 ∷ 0 ∷ 0 ∷ 2 ∷ 2 ∷ []) 0 O7) 513 ≡ 17)
unfolding remove_output remove_number trailer_of u16_at net_of record_bytes record_part meeting tracks_of memb
remove-high = (refl, refl, refl)

-- the standard form: by the whole number, and marked 57 49 again
form-high : canonical_form high
    ≡ long2 (1 ∷ 0 ∷ 0 ∷ 0 ∷ []) 1 5 0 ++ long2 (1 ∷ 0 ∷ 1 ∷ 0 ∷ []) 0 1 0 ++ long2 (1 ∷ 2 ∷ 3 ∷ 4 ∷ []) 0 5 0
    ++ (0 ∷ 0 ∷ 14 ∷ 0 ∷ 28 ∷ 0 ∷ [])
    ++ (3 ∷ 2 ∷ 0 ∷ 3 ∷ 3 ∷ 0 ∷ 42 ∷ 0 ∷ 60 ∷ 0 ∷ 0x57 ∷ 0x49 ∷ [])
unfolding canonical_form canonical_net nets trailer_of u16_at net_of record_bytes record_part
form-high = refl

mark-high : mark_of (canonical_form high) ≡ long
unfolding mark_of
mark-high = demands.standard.mark high accepted-high

-- two nets 65,537 are one number: 9
twice-high : refusal (three (1 ∷ 0 ∷ 1 ∷ 0 ∷ []) (1 ∷ 0 ∷ 1 ∷ 0 ∷ []) (3 ∷ 0 ∷ 0 ∷ 0 ∷ []) 2) ≡ 9
unfolding refusal meeting u16_at trailer_of net_of record_bytes
twice-high = refl

-- ---- marks

-- the records of one mark under the other are refused with 5, and a third mark with 2
other-marks : (refusal (nets_t 0 1 5 0 ++ (3 ∷ 2 ∷ 0 ∷ 2 ∷ 3 ∷ 0 ∷ 0x24 ∷ 0 ∷ 0x36 ∷ 0 ∷ 0x57 ∷ 0x49 ∷ [])) ≡ 5)
    × (refusal (three_marked (1 ∷ 0 ∷ 0 ∷ 0 ∷ []) (2 ∷ 0 ∷ 0 ∷ 0 ∷ []) (3 ∷ 0 ∷ 0 ∷ 0 ∷ []) 2 0x48) ≡ 5)
    × (refusal (three_marked (1 ∷ 0 ∷ 0 ∷ 0 ∷ []) (2 ∷ 0 ∷ 0 ∷ 0 ∷ []) (3 ∷ 0 ∷ 0 ∷ 0 ∷ []) 2 0x4A) ≡ 2)
unfolding refusal meeting u16_at trailer_of net_of record_bytes
other-marks = (refl, refl, refl)
