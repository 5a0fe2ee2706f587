-- Numbers in decimal, as bytes of text. Definitions only; laws: proofs/DecimalLaws.antt. Assumes nothing.
use Rattle.std.specs.Prelude.{ℕ, zero, suc, ◌+◌, ◌-◌, ◌*◌, ◌/◌, ◌%◌, List, [], ◌∷◌, ◌++◌, true, false, ltb}

-- the byte of a digit: '0' is 48
abbrev pub digit : ℕ → ℕ
digit d = 48 + d

-- the digits of n in `steps` divisions by 10 at most
unfoldable pub digits_in : ℕ → ℕ → List ℕ
digits_in zero n = digit n ∷ []
digits_in (suc steps) n = elim (ltb n 10) [ true ↦ digit n ∷ [] | false ↦ digits_in steps (n / 10) ++ (digit (n % 10) ∷ []) ]

-- the digits of n, the most significant first; n divisions are enough
unfoldable pub digits : ℕ → List ℕ
unfolding digits_in
digits n = digits_in n n

-- the number that digits read to, behind those that read to n
unfoldable pub value_from : ℕ → List ℕ → ℕ
value_from n [] = n
value_from n (b ∷ bs) = value_from (n * 10 + (b - 48)) bs

abbrev pub value : List ℕ → ℕ
value bs = value_from 0 bs

-- a word and a number behind it
unfoldable pub field : List ℕ → ℕ → List ℕ
field word x = word ++ digits x
