-- Dead wires (02, M-105): the list of them that a call is lent, and the conditions of the numbers 19 and 20.
-- Definitions only; laws: proofs/DefectsLaws.antt. Assumes nothing.
use Rattle.std.specs.Prelude.{◌≡◌, ◌↔◌, ◌≢◌, ℕ, ◌+◌, ◌*◌, ◌/◌, ◌%◌, ◌≤◌, ◌<◌, List, [], ◌∷◌, Bool, not, ◌||◌, ltb, leb, eqb, length, get_or}
use Rattle.numbers.specs.Numbers.{list_no, repeat_no}
use Rattle.bounded.specs.Bounded.{any_below, count_below}
use Rattle.grid.specs.Grid.{Wire, same_wire}
use Rattle.net.specs.Net.{u16_at}

-- "a list of 3-byte items, channel u16 and track u8": how many whole items the list d has, and the wire of item k
abbrev pub item_length : ℕ
item_length = 3

abbrev pub item_count : List ℕ → ℕ
item_count d = length d / item_length

unfoldable pub item_at : List ℕ → ℕ → Wire
unfolding u16_at
item_at d k = record { channel = u16_at d (item_length * k); track = get_or d (item_length * k + 2) 0 }

-- the wire v is broken: one of the list
unfoldable pub is_dead : List ℕ → Wire → Bool
unfolding any_below item_at
is_dead d v = any_below (item_count d) (λ k. same_wire v (item_at d k))

-- ---- the conditions of the numbers 19 and 20, for a chip of `count` channels

-- "a track over 31", whatever W is
abbrev pub max_track : ℕ
max_track = 31

-- "an unknown channel or a track over 31"
abbrev pub bad_item : ℕ → Wire → Bool
bad_item count v = leb count v.channel || ltb max_track v.track

-- 19 list: "a list not of whole items, an unknown channel or a track over 31"
unfoldable pub bad_list : ℕ → List ℕ → Bool
unfolding any_below item_at
bad_list count d = not (eqb (length d % item_length) 0) || any_below (item_count d) (λ k. bad_item count (item_at d k))

-- 20 repeat: "a repeated wire": item k is the same wire as one before it
unfoldable pub repeated_item : List ℕ → Bool
unfolding any_below item_at
repeated_item d = any_below (item_count d) (λ k. any_below k (λ l. same_wire (item_at d k) (item_at d l)))

-- 19 and 20 in the order of the table, each with its condition
abbrev pub list_conditions : ℕ → List ℕ → List (ℕ × Bool)
list_conditions count d = (list_no, bad_list count d) ∷ (repeat_no, repeated_item d) ∷ []

-- ---- what they are to mean

-- "whole items", each with a channel of the chip and a track not over 31
pub record KnownItems (count : ℕ) (d : List ℕ) : Type 0 where
  pub whole : length d % item_length ≡ 0
  pub channels : (k : ℕ) → k < item_count d → (item_at d k).channel < count
  pub tracks : (k : ℕ) → k < item_count d → (item_at d k).track ≤ max_track

-- no wire is named twice, wherever in the list
abbrev pub NoRepeat : List ℕ → Type 0
NoRepeat d = (k l : ℕ) → k < item_count d → l < k → item_at d k ≢ item_at d l

-- a list that neither 19 nor 20 refuses
abbrev pub AcceptedList : ℕ → List ℕ → Type 0
AcceptedList count d = KnownItems count d × NoRepeat d

-- when 19 comes, when 20, and when neither; the number n
pub record ListExactly (count : ℕ) (d : List ℕ) (n : ℕ) : Type 0 where
  pub zero : (n ≡ 0) ↔ AcceptedList count d
  pub list : (n ≡ list_no) ↔ (KnownItems count d → ⊥)
  pub repeat : (n ≡ repeat_no) ↔ (KnownItems count d × (NoRepeat d → ⊥))

-- ---- lists that say the same

-- how often the list names the wire v (its multiplicity)
unfoldable pub namings : List ℕ → Wire → ℕ
unfolding count_below item_at
namings d v = count_below (item_count d) (λ k. same_wire v (item_at d k))

-- "relistings are compared under the same list": the same items in any order, and as many bytes behind the last whole one
pub record SameItems (d e : List ℕ) : Type 0 where
  pub sized : length d ≡ length e
  pub items : (v : Wire) → namings d v ≡ namings e v

-- the same wires below the width w: "Items at or above the width in use … are ignored"
abbrev pub SameBelow : ℕ → List ℕ → List ℕ → Type 0
SameBelow w d e = (v : Wire) → v.track < w → is_dead d v ≡ is_dead e v
