-- What the functions of `remove_promises` state of Remove's own number and bytes, alone and beside another call (02, M-100), and beside tickets
-- under a list of dead wires (02, M-105). Definitions only; laws: proofs/RemovingLaws.antt. Assumes nothing.
use Rattle.std.specs.Prelude.{◌≡◌, ◌↔◌, ◌≢◌, ℕ, List, [], ◌∷◌, true}
use Rattle.numbers.specs.Numbers.{list_no, repeat_no}
use Rattle.netlist.specs.Netlist.{WellFormed, channels_of}
use Rattle.defects.specs.Defects.{AcceptedList}
use Rattle.assignment.specs.Check.{number_on}
use Rattle.routing.specs.declared.Answer.{Answer}
use Rattle.routing.specs.Equivalent.{EnoughSpace}
use Rattle.routing.specs.declared.Call.TheVariants.{Refit}
use Rattle.routing.specs.Outcomes.{Inputs, lent, with_dead, nets_in, overwrite}
use Rattle.routing.specs.Remove.{remove_number, remove_output, RemovesExactly, TakenOut, LeftLegal, OneUnrouted, SameRemoved}
use Rattle.routing.specs.Results.{PartlyLegalFor, assignment_in, Written, IsOneOf, IsNoneOf, remove_numbers, ticket_numbers}
use Rattle.answers.specs.Promises.{Gave}

-- the number n and the output `after` are those of Remove, for the net number x
abbrev pub Took : Inputs → ℕ → ℕ → List ℕ → Type 0
Took i x n after = (n ≡ remove_number i x) × (after ≡ remove_output i x)

-- one call: when it gives 0 and when 17, its other numbers, and every byte written
pub record Removes (i : Inputs) (x n : ℕ) (after : List ℕ) : Type 0 where
  pub took : Took i x n after
  pub exactly : RemovesExactly i x n
  pub uses : IsOneOf n remove_numbers
  pub written : Written i n after
  -- "that net's bytes 255 and all others as before"
  pub bytes : n ≡ 0 → TakenOut (nets_in i) x i.old (assignment_in i after)
  -- "Of such a ticket demand 2 speaks for the placed nets alone."
  pub legal : n ≡ 0 → LeftLegal i.sheet x i.old (assignment_in i after)

-- two calls on relistings
pub record RemovedAlike (i j : Inputs) (x m n : ℕ) (after after2 : List ℕ) : Type 0 where
  pub first : Took i x m after
  pub second : Took j x n after2
  pub same : SameRemoved i j m n after after2

-- "a ticket as Refit reads one": Refit and Remove, each with an output of its own, find none of its numbers exactly where it is right for its
-- placed nets: Refit's list is accepted and it is right without these wires, Remove is lent no list (02, M-105)
pub record ReadAlike (i : Inputs) (x : ℕ) (out2 : List ℕ) (r : Answer) (after : List ℕ) (n : ℕ) (after2 : List ℕ) : Type 0 where
  pub refitted : Gave Refit i r after
  pub took : Took (lent i.sheet [] i.old 0 out2) x n after2
  pub refit : WellFormed i.sheet
      → IsNoneOf r.number (list_no ∷ repeat_no ∷ ticket_numbers) ↔ (AcceptedList (channels_of i.sheet) i.dead × PartlyLegalFor i i.old)
  pub remove : WellFormed i.sheet → IsNoneOf n ticket_numbers ↔ PartlyLegalFor (with_dead i []) i.old

-- Remove of the net number x, beside the numbers m of the lent ticket and k of the written one under the list d, as Refit reads one; where Remove
-- refused, its number. Nothing that it writes is worse: the written ticket is refused only with the lent one's number, 21 with 21
pub record NoWorse (i : Inputs) (d : List ℕ) (x m n : ℕ) (after : List ℕ) (k : ℕ) : Type 0 where
  pub took : Took i x n after
  pub before : m ≡ number_on true i.sheet d i.old
  pub written : n ≡ 0 → k ≡ number_on true i.sheet d (assignment_in i after)
  pub untouched : n ≢ 0 → k ≡ n
  pub same : n ≡ 0 → k ≢ 0 → m ≡ k

-- Remove, after Refit, of the net number x from the ticket that Refit wrote; where Refit refused, nothing is asked of Remove
pub record WayBack (i : Inputs) (x : ℕ) (out2 : List ℕ) (r : Answer) (after : List ℕ) (n : ℕ) (after2 : List ℕ) : Type 0 where
  pub refitted : Gave Refit i r after
  pub took : r.number ≡ 0 → Took (lent i.sheet [] (assignment_in i after) 0 out2) x n after2
  pub untouched : r.number ≢ 0 → (n ≡ r.number) × (after2 ≡ out2)
  -- "Where Refit placed just one new net and moved none, this gives back the ticket from before."
  pub back : r.number ≡ 0 → r.moved ≡ 0 → OneUnrouted (nets_in i) i.old x → EnoughSpace (lent i.sheet [] i.old 0 out2)
      → (n ≡ 0) × (after2 ≡ overwrite i.old out2)
