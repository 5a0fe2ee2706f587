-- What the code's contracts and the laws say of dead wires beside the request's definitions. Definitions only; laws:
-- proofs/DefectsLaws.antt. Assumes nothing.
use Rattle.std.specs.Prelude.{◌≡◌, ℕ, List}
use Rattle.numbers.specs.Numbers.{first_number}
use Rattle.marks.specs.Marks.{marked_in}
use Rattle.defects.specs.Defects.{is_dead, bad_list, repeated_item, list_conditions}

-- 19 or 20 of a list for a chip of `count` channels, the first that applies; 0 where the list is accepted
unfoldable pub list_number : ℕ → List ℕ → ℕ
unfolding first_number bad_list repeated_item
list_number count d = first_number (list_conditions count d)

-- the marks m hold the wires of the list d, and no others
abbrev pub Marked : List ℕ → List ℕ → Type 0
Marked d m = marked_in m ≡ is_dead d
