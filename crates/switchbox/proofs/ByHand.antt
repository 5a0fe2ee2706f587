-- Partners and tables worked out by hand (02, M-102): what the definitions give for one box by rows. Assumes nothing.
use mathlib.Core.Path.{◌≡◌, refl}
use Prim.Native.Nat.{ℕ}
use mathlib.Core.List.{List, [], ◌∷◌, map}
use lib.ListN.{get_or}
use Rattle.switchbox.specs.SwitchBox.{rows_kind, switch_track}
use Rattle.switchbox.specs.Generator.{no_table, generated}

-- left–right 1 + i, top–bottom 3 − i, left–top 2 − i, top–right −1 + i, right–bottom −32 − i, bottom–left 31 + i
abbrev pub mixed : List ℕ
mixed = 0 ∷ 1 ∷ 1 ∷ 3 ∷ 1 ∷ 2 ∷ 0 ∷ 255 ∷ 1 ∷ 224 ∷ 0 ∷ 31 ∷ []

-- the partners of track 1 at the widths 2, 3, 31 and 32, from the first side of a pair to the second; the sides are 0 left, 1 top, 2 right, 3 bottom
abbrev of1 : ℕ → ℕ → List ℕ
of1 from to = map (λ (w : ℕ). switch_track rows_kind mixed w from to 1) (2 ∷ 3 ∷ 31 ∷ 32 ∷ [])

-- 1 + 1, and back 1 − 1
left-right : (of1 0 2 ≡ 0 ∷ 2 ∷ 2 ∷ 2 ∷ []) × (of1 2 0 ≡ 0 ∷ 0 ∷ 0 ∷ 0 ∷ [])
unfolding switch_track
left-right = (refl, refl)

-- 3 − 1, both ways
top-bottom : (of1 1 3 ≡ 0 ∷ 2 ∷ 2 ∷ 2 ∷ []) × (of1 3 1 ≡ 0 ∷ 2 ∷ 2 ∷ 2 ∷ [])
unfolding switch_track
top-bottom = (refl, refl)

-- 2 − 1, both ways
left-top : (of1 0 1 ≡ 1 ∷ 1 ∷ 1 ∷ 1 ∷ []) × (of1 1 0 ≡ 1 ∷ 1 ∷ 1 ∷ 1 ∷ [])
unfolding switch_track
left-top = (refl, refl)

-- −1 + 1, and back 1 + 1
top_right : (of1 1 2 ≡ 0 ∷ 0 ∷ 0 ∷ 0 ∷ []) × (of1 2 1 ≡ 0 ∷ 2 ∷ 2 ∷ 2 ∷ [])
unfolding switch_track
top_right = (refl, refl)

-- −32 − 1, both ways
right-bottom : (of1 2 3 ≡ 1 ∷ 0 ∷ 29 ∷ 31 ∷ []) × (of1 3 2 ≡ 1 ∷ 0 ∷ 29 ∷ 31 ∷ [])
unfolding switch_track
right-bottom = (refl, refl)

-- 31 + 1, and back 1 − 31
bottom-left : (of1 3 0 ≡ 0 ∷ 2 ∷ 1 ∷ 0 ∷ []) × (of1 0 3 ≡ 0 ∷ 0 ∷ 1 ∷ 2 ∷ [])
unfolding switch_track
bottom-left = (refl, refl)

-- the generator's table: from left, from top, from right, from bottom
table-of-mixed : generated mixed ≡ record {
  number = 0;
  table = record {
    signs = 0 ∷ 1 ∷ 0 ∷ 0 ∷ 1 ∷ 0 ∷ 0 ∷ 1 ∷ 0 ∷ 0 ∷ 0 ∷ 1 ∷ 0 ∷ 1 ∷ 1 ∷ 0 ∷ [];
    shifts = 0 ∷ 2 ∷ 1 ∷ 225 ∷ 2 ∷ 0 ∷ 255 ∷ 3 ∷ 255 ∷ 1 ∷ 0 ∷ 224 ∷ 31 ∷ 3 ∷ 224 ∷ 0 ∷ [];
  };
}
unfolding generated
table-of-mixed = refl

-- −32 + i from the other end is 32 + i
lowest-negated : get_or (generated (0 ∷ 224 ∷ [])).table.shifts 8 0 ≡ 32
unfolding generated
lowest-negated = refl

-- a shift of 32, of −33, of −128 and of 127, and a sign of 2, in one column or another
refused :
    map (λ (r : List ℕ). (generated r).number)
    ((0 ∷ 32 ∷ []) ∷ (0 ∷ 0 ∷ 1 ∷ 223 ∷ []) ∷ (0 ∷ 0 ∷ 0 ∷ 0 ∷ 0 ∷ 128 ∷ []) ∷ (0 ∷ 127 ∷ []) ∷ (0 ∷ 0 ∷ 0 ∷ 0 ∷ 0 ∷ 0 ∷ 0 ∷ 0 ∷ 0 ∷ 0 ∷ 2 ∷ 0 ∷ []) ∷ [])
    ≡ 18 ∷ 18 ∷ 18 ∷ 18 ∷ 18 ∷ []
unfolding generated
refused = refl

no_table_lem : (generated (2 ∷ 0 ∷ [])).table ≡ no_table
unfolding generated
no_table_lem = refl
