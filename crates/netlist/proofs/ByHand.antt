-- The rows of two sheets of no nets, by hand (02, M-102). Assumes nothing.
use mathlib.Core.Path.{◌≡◌, refl}
use Prim.Native.Nat.{ℕ}
use mathlib.Core.List.{List, [], ◌∷◌, ◌++◌}
use mathlib.Core.Bool.{true, false}
use lib.ListN.{replicate}
use Rattle.netlist.specs.Netlist.{trailer_of, rows_of, bad_rows}

-- twelve bytes, and a trailer of a 3 by 2 grid of a kind, W 2
abbrev sheet : ℕ → List ℕ → List ℕ
sheet kind rows = rows ++ (3 ∷ 2 ∷ kind ∷ 2 ∷ 0 ∷ 0 ∷ 0 ∷ 0 ∷ 24 ∷ 0 ∷ 0x57 ∷ 0x48 ∷ [])

abbrev odd : List ℕ
odd = 7 ∷ 32 ∷ 1 ∷ 2 ∷ 3 ∷ 4 ∷ 5 ∷ 6 ∷ 0 ∷ 128 ∷ 9 ∷ 200 ∷ []

-- of kind 3 they are the rows, and refused; of kind 1 there are none
rows-3 : (rows_of (sheet 3 odd) ≡ odd) × (bad_rows (sheet 3 odd) ≡ true)
unfolding trailer_of bad_rows
rows-3 = (refl, refl)

rows-1 : (rows_of (sheet 1 odd) ≡ replicate 12 0) × (bad_rows (sheet 1 odd) ≡ false)
unfolding trailer_of bad_rows
rows-1 = (refl, refl)
