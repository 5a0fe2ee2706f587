-- The marked cases m1 to m12 (01 "Sheets to try"; m4, m5 and m10 as 02, M-104 has them), as one table: each call and
-- what the paper says that it gives, with no dead wires (02, M-105).
use Rattle.std.specs.Prelude.{ℕ, List, [], ◌∷◌, ◌++◌}
use Rattle.reader.specs.Read.{read_of}
use Rattle.assignment.specs.Check.{check_of}
use Rattle.routing.specs.declared.Call.{Call}
use Rattle.routing.specs.Outcomes.{route, least, refit, Inputs, lent, answer_of, output_of}

-- Read or Check with their inputs, or another call with what it is lent; the output lent is longer than the entry count and all 170
pub data Case : Type 0 where
  read : List ℕ → Case
  check : List ℕ → List ℕ → List ℕ → Case
  call : Call → Inputs → Case

-- the number, the other results in the order of the paper, and the whole output
pub record Result : Type 0 where
  pub number : ℕ
  pub others : List ℕ
  pub output : List ℕ

unfoldable pub result_of : Case → Result
unfolding read_of check_of answer_of output_of
result_of (read s) = let a = read_of s in record { number = a.number; others = a.nets ∷ a.entries ∷ []; output = [] }
result_of (check s d b) = record { number = check_of s d b; others = []; output = [] }
result_of (call c i) =
    let a = answer_of c i in
    record { number = a.number; others = a.width ∷ a.trials ∷ a.moved ∷ []; output = output_of c i }

-- a record of one entry, and of two, the second joined to the entry p
abbrev pub record1 : ℕ → ℕ → List ℕ
record1 x c = x ∷ 0 ∷ 1 ∷ 0 ∷ c ∷ 0 ∷ 0xFF ∷ 0xFF ∷ []

abbrev pub record2 : ℕ → ℕ → ℕ → ℕ → List ℕ
record2 x c d p = x ∷ 0 ∷ 2 ∷ 0 ∷ c ∷ 0 ∷ 0xFF ∷ 0xFF ∷ d ∷ 0 ∷ p ∷ 0 ∷ []

-- a trailer: A, B, kind, W, net count, directory offset, length; that of a 3 by 2 grid, and of a 4 by 4 one
abbrev trailer_on : ℕ → ℕ → ℕ → ℕ → ℕ → ℕ → ℕ → List ℕ
trailer_on cols rows kind w n d l = cols ∷ rows ∷ kind ∷ w ∷ n ∷ 0 ∷ d ∷ 0 ∷ l ∷ 0 ∷ 0x57 ∷ 0x48 ∷ []

abbrev pub trailer : ℕ → ℕ → ℕ → ℕ → ℕ → List ℕ
trailer = trailer_on 3 2

abbrev pub trailer4 : ℕ → ℕ → ℕ → ℕ → ℕ → List ℕ
trailer4 = trailer_on 4 4

-- the nets of sheet T on channels a, b, c for 0, 1, 5, and their directory; p is net 2's second parent
abbrev pub nets_t : ℕ → ℕ → ℕ → ℕ → List ℕ
nets_t a b c p = record2 1 a b 0 ++ record2 2 b c p ++ record2 3 a c 0 ++ (0 ∷ 0 ∷ 0x0C ∷ 0 ∷ 0x18 ∷ 0 ∷ [])

-- sheet T with a kind, a W and net 2's second parent
abbrev pub sheet_t : ℕ → ℕ → ℕ → List ℕ
sheet_t kind w p = nets_t 0 1 5 p ++ trailer kind w 3 0x24 0x36

-- "T on a 4 by 4 chip, channels 3, 4, 17 for 0, 1, 5" (02, M-104), with a kind and a W: all three meet in the inner box (1, 1)
abbrev pub sheet_t4 : ℕ → ℕ → List ℕ
sheet_t4 kind w = nets_t 3 4 17 0 ++ trailer4 kind w 3 0x24 0x36

-- m7: "nets 1 {0}, 2 {1}, 3 {0,1}", kind 0, W 2
abbrev S7 : List ℕ
S7 = record1 1 0 ++ record1 2 1 ++ record2 3 0 1 0 ++ (0 ∷ 0 ∷ 8 ∷ 0 ∷ 16 ∷ 0 ∷ []) ++ trailer 0 2 3 28 46

-- m8: no nets
abbrev S8 : List ℕ
S8 = trailer 0 2 0 0 12

-- m9: "Three nets {0}, W 2"
abbrev S9 : List ℕ
S9 = record1 1 0 ++ record1 2 0 ++ record1 3 0 ++ (0 ∷ 0 ∷ 8 ∷ 0 ∷ 16 ∷ 0 ∷ []) ++ trailer 0 2 3 24 42

-- an output of 7 bytes, and of 5
abbrev pub O7 : List ℕ
O7 = 170 ∷ 170 ∷ 170 ∷ 170 ∷ 170 ∷ 170 ∷ 170 ∷ []

abbrev O5 : List ℕ
O5 = 170 ∷ 170 ∷ 170 ∷ 170 ∷ 170 ∷ []

abbrev result : ℕ → List ℕ → List ℕ → Result
result x ys out = record { number = x; others = ys; output = out }

-- Each case with what the paper says. Chosen where the paper leaves it open: the budgets of m3 to m7 are just enough; the grid of m7 to m9
-- is 3 by 2, the kind of m8 and m9 is 0, m8 has W 2; m9 is Route, m11 is Read, m10 and m12 are Check. m6's bytes are those of the printed lines.
abbrev pub marked_cases : List (Case × Result)
marked_cases =
    -- m1, m2
    (call route (lent (sheet_t 0 2 0) [] [] 10 O7), result 15 (0 ∷ 10 ∷ 0 ∷ []) O7) ∷
    (call route (lent (sheet_t 0 2 0) [] [] 9 O7), result 16 (0 ∷ 9 ∷ 0 ∷ []) O7) ∷
    -- m3
    (call route (lent (sheet_t 0 3 0) [] [] 6 O7), result 0 (3 ∷ 6 ∷ 0 ∷ []) (0 ∷ 0 ∷ 1 ∷ 1 ∷ 2 ∷ 2 ∷ 170 ∷ [])) ∷
    -- m4, m5
    (call route (lent (sheet_t 2 2 0) [] [] 10 O7), result 15 (0 ∷ 10 ∷ 0 ∷ []) O7) ∷
    (call route (lent (sheet_t 1 2 0) [] [] 10 O7), result 15 (0 ∷ 10 ∷ 0 ∷ []) O7) ∷
    -- m6
    (call least (lent (sheet_t 0 2 0) [] [] 16 O7), result 0 (3 ∷ 16 ∷ 0 ∷ []) (0 ∷ 0 ∷ 1 ∷ 1 ∷ 2 ∷ 2 ∷ 170 ∷ [])) ∷
    -- m7
    (call refit (lent S7 [] (0 ∷ 1 ∷ 255 ∷ 255 ∷ []) 10 O5), result 0 (2 ∷ 10 ∷ 1 ∷ []) (0 ∷ 0 ∷ 1 ∷ 1 ∷ 170 ∷ [])) ∷
    -- m8
    (call route (lent S8 [] [] 0 (170 ∷ [])), result 0 (2 ∷ 0 ∷ 0 ∷ []) (170 ∷ [])) ∷
    (call least (lent S8 [] [] 0 (170 ∷ [])), result 0 (1 ∷ 0 ∷ 0 ∷ []) (170 ∷ [])) ∷
    -- m9
    (call route (lent S9 [] [] 0 O5), result 15 (0 ∷ 0 ∷ 0 ∷ []) O5) ∷
    -- m10
    (check (sheet_t4 2 2) [] (0 ∷ 0 ∷ 1 ∷ 0 ∷ 1 ∷ 1 ∷ []), result 12 [] []) ∷
    -- m11
    (read (sheet_t 0 2 1), result 8 (0 ∷ 0 ∷ []) []) ∷
    -- m12
    (check (sheet_t 0 2 0) [] (0 ∷ 0 ∷ 0 ∷ 0 ∷ 0 ∷ []), result 10 [] []) ∷
    []
