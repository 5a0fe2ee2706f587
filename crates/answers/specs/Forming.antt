-- What the functions of `standard_promises` state of Standard's own number and bytes, alone and beside other calls (02, M-101). Definitions only; laws:
-- proofs/FormingLaws.antt. Assumes nothing.
use Rattle.std.specs.Prelude.{◌≡◌, ◌≢◌, ℕ, ◌≤◌, List, length, take}
use Rattle.net.specs.Nets.{entry_count}
use Rattle.netlist.specs.Netlist.{mark_of, grid_of, SameKind, width_of, nets}
use Rattle.assignment.specs.Check.{check_of}
use Rattle.routing.specs.declared.Answer.{Answer}
use Rattle.routing.specs.Equivalent.{Equivalent, SameBytes, OldTracksFor, EnoughSpace, SameOutcome}
use Rattle.routing.specs.declared.Call.{Call}
use Rattle.routing.specs.Outcomes.{Inputs, lent, refused}
use Rattle.routing.specs.Results.{IsOneOf}
use Rattle.canonical.specs.Standard.{standard_number, standard_output, standard_numbers, StandardExactly, FormWritten, InCanonicalOrder, SameExactly}
use Rattle.answers.specs.Promises.{Gave}

-- the number n and the output `after` are those of Standard
abbrev pub Formed : List ℕ → List ℕ → ℕ → List ℕ → Type 0
Formed s out n after = (n ≡ standard_number s out) × (after ≡ standard_output s out)

-- the standard form in an output: its first bytes, as many as the sheet s has
abbrev pub form_in : List ℕ → List ℕ → List ℕ
form_in s out = take (length s) out

-- one call: when it gives 0 and when 14, its other numbers, every byte, and what is written on success
pub record Forms (s out : List ℕ) (n : ℕ) (after : List ℕ) : Type 0 where
  pub formed : Formed s out n after
  pub exactly : StandardExactly s out n
  pub uses : IsOneOf n standard_numbers
  pub written : FormWritten s out n after
  -- accepted, and a relisting of the sheet, of its mark
  pub relisting : n ≡ 0 → Equivalent s (form_in s after)
  pub mark : n ≡ 0 → mark_of (form_in s after) ≡ mark_of s
  -- "nets stand in rising number and each tree starts at the net's home. Each next entry …"
  pub order : n ≡ 0 → InCanonicalOrder (nets (form_in s after))

-- two sheets: "Two accepted sheets of the same chip, kind and W have the same nets, channels and joints exactly if their standard forms are equal
-- bytes."; "equality is claimed between sheets of one mark" (02, M-106)
pub record Compared (s t out out2 : List ℕ) (m n : ℕ) (after after2 : List ℕ) : Type 0 where
  pub first : Formed s out m after
  pub second : Formed t out2 n after2
  pub exactly : m ≡ 0 → n ≡ 0 → grid_of s ≡ grid_of t → SameKind s t → width_of s ≡ width_of t → mark_of s ≡ mark_of t
      → SameExactly s t (form_in s after) (form_in t after2)

-- a second call, on what the first one wrote: it changes nothing; where the first refused, it is not made
pub record FormedTwice (s out out2 : List ℕ) (m n : ℕ) (after after2 : List ℕ) : Type 0 where
  pub first : Formed s out m after
  pub second : m ≡ 0 → Formed (form_in s after) out2 n after2
  pub untouched : m ≢ 0 → (n ≡ m) × (after2 ≡ out2)
  pub again : m ≡ 0 → length s ≤ length out2 → (n ≡ 0) × (form_in s after2 ≡ form_in s after)

-- what a call is lent with the standard form in `form` for the sheet of i, the old ticket old2 and the output out2; "relistings are compared under
-- the same list" (02, M-105)
abbrev pub on_form : Inputs → List ℕ → List ℕ → List ℕ → Inputs
on_form i form old2 out2 = lent (form_in i.sheet form) i.dead old2 i.budget out2

-- Route, Least or Refit on a sheet and on its standard form, which Standard wrote to `form`: the number m of Standard, the answers a and b. Where
-- Standard refused, the calls are not made, and its number stands in both answers
pub record AnsweredAlike (c : Call) (i : Inputs) (before old2 out2 : List ℕ) (m : ℕ) (form : List ℕ) (a b : Answer) (after after2 : List ℕ) : Type 0 where
  pub formed : Formed i.sheet before m form
  pub first : m ≡ 0 → Gave c i a after
  pub second : m ≡ 0 → Gave c (on_form i form old2 out2) b after2
  pub untouched : m ≢ 0 → (a ≡ refused m) × (b ≡ refused m) × (after ≡ i.out) × (after2 ≡ out2)
  -- the same answers, with space and, for Refit, old tickets of the same byte for each net number and channel
  pub same : m ≡ 0 → EnoughSpace i → EnoughSpace (on_form i form old2 out2) → OldTracksFor c i (on_form i form old2 out2)
      → SameOutcome i (on_form i form old2 out2) a b after after2

-- Check of two tickets with the list d, a on the sheet s and b on its standard form: the numbers x and y; where Standard refused, its number
pub record CheckedAlike (s d before a b : List ℕ) (m : ℕ) (form : List ℕ) (x y : ℕ) : Type 0 where
  pub formed : Formed s before m form
  pub first : m ≡ 0 → x ≡ check_of s d a
  pub second : m ≡ 0 → y ≡ check_of (form_in s form) d b
  pub untouched : m ≢ 0 → (x ≡ m) × (y ≡ m)
  -- the same number, of tickets of the same byte for each net number and channel
  pub same : m ≡ 0 → length a ≡ entry_count (nets s) → length b ≡ entry_count (nets (form_in s form)) → SameBytes s (form_in s form) a b → x ≡ y
