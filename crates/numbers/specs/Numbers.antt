-- The numbers and their order (01 "Words for no"; 02, M-100, M-102, M-105). Definitions only; laws: proofs/NumbersLaws.antt. Assumes nothing.
use Rattle.std.specs.Prelude.{◌≡◌, ℕ, List, [], ◌∷◌, map, Bool, true, false, ltb, eqb}

-- the numbers of the table, by the paper's words
abbrev pub length_no : ℕ
length_no = 1

abbrev pub mark_no : ℕ
mark_no = 2

abbrev pub chip_no : ℕ
chip_no = 3

abbrev pub crowd_no : ℕ
crowd_no = 4

abbrev pub directory_no : ℕ
directory_no = 5

abbrev pub channel_no : ℕ
channel_no = 6

abbrev pub twice_no : ℕ
twice_no = 7

abbrev pub joint_no : ℕ
joint_no = 8

abbrev pub name_no : ℕ
name_no = 9

abbrev pub size_no : ℕ
size_no = 10

abbrev pub track_no : ℕ
track_no = 11

abbrev pub switch_no : ℕ
switch_no = 12

abbrev pub clash_no : ℕ
clash_no = 13

abbrev pub space_no : ℕ
space_no = 14

abbrev pub unroutable_no : ℕ
unroutable_no = 15

abbrev pub spent_no : ℕ
spent_no = 16

-- 02, M-100
abbrev pub stranger_no : ℕ
stranger_no = 17

-- 02, M-102
abbrev pub parameter_no : ℕ
parameter_no = 18

-- 02, M-105
abbrev pub list_no : ℕ
list_no = 19

abbrev pub repeat_no : ℕ
repeat_no = 20

abbrev pub broken_no : ℕ
broken_no = 21

-- The order of the table. It decides, not the size of a number: "17 (stranger), after 13 and before 14", "18
-- (parameter), between 5 and 6", "19 (list) … 20 (repeat), both between 9 and 10, and … 21 (broken), between 12 and 13". A number that a later
-- request adds is put where it is tested; none is renumbered. Each call has a list of the numbers it uses, with their conditions, and it stands
-- in this order (`InTableOrder`). 15 and 16 come after trials: the condition of 15 says that 16 does not apply.
abbrev pub table_order : List ℕ
table_order =
    length_no ∷ mark_no ∷ chip_no ∷ crowd_no ∷ directory_no ∷ parameter_no ∷ channel_no ∷ twice_no ∷ joint_no ∷ name_no ∷
    list_no ∷ repeat_no ∷ size_no ∷ track_no ∷ switch_no ∷ broken_no ∷ clash_no ∷ stranger_no ∷ space_no ∷ unroutable_no ∷ spent_no ∷ []

-- the numbers xs stand in the order of ys, none of them twice
unfoldable pub in_order_of : List ℕ → List ℕ → Bool
in_order_of ys [] = true
in_order_of [] (x ∷ xs) = false
in_order_of (y ∷ ys) (x ∷ xs) = elim (eqb x y) [ true ↦ in_order_of ys xs | false ↦ in_order_of ys (x ∷ xs) ]

-- the numbers of a call, each with its condition, stand in the order of the table
abbrev pub InTableOrder : List (ℕ × Bool) → Type 0
InTableOrder xs = in_order_of table_order (map (λ (x : ℕ × Bool). x.0) xs) ≡ true

-- "The lowest number that applies is given", lowest in the order of the table: the first of the list; 0 where none applies
unfoldable pub first_number : List (ℕ × Bool) → ℕ
first_number [] = 0
first_number (x ∷ xs) = elim x.1 [ true ↦ x.0 | false ↦ first_number xs ]

-- 14 space: output shorter than what the call writes: `needed` bytes, and an output of `given`. "output shorter than the entry count" (01);
-- "The output needs the sheet's own length, else 14." (02, M-101)
abbrev pub space_conditions : ℕ → ℕ → List (ℕ × Bool)
space_conditions needed given = (space_no, ltb given needed) ∷ []
