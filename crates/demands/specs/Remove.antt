-- Promises of Remove, taking a net out (02, M-100); its numbers: Demand1.antt. Definitions only; that they hold: proofs/Remove.antt. Assumes nothing.
use Rattle.std.specs.Prelude.{◌≡◌, ◌↔◌, ℕ, List, [], true}
use Rattle.netlist.specs.Netlist.{WellFormed}
use Rattle.defects.specs.Defects.{is_dead}
use Rattle.assignment.specs.Assignment.{broken_wire}
use Rattle.routing.specs.Equivalent.{EnoughSpace}
use Rattle.routing.specs.Outcomes.{Inputs, lent, with_dead, nets_in, overwrite, answer_of, output_of}
use Rattle.routing.specs.Remove.{remove_number, remove_output, RemovesExactly, TakenOut, LeftLegal, OneUnrouted, RemoveRelisting, SameRemoved}
use Rattle.routing.specs.Results.{PartlyLegalFor, assignment_in, Written, IsNoneOf, ticket_numbers}
use Rattle.routing.specs.declared.Call.TheVariants.{Refit}

pub record Remove : Type 0 where
  -- ---- asked for

  -- "It refuses a number that the sheet lacks with 17 (stranger), after 13 and before 14.": and success comes exactly where nothing refuses
  pub exactly : (i : Inputs) (x : ℕ) → RemovesExactly i x (remove_number i x)
  -- "No refusal writes. Success writes exactly the entry count of bytes", 01
  pub writes : (i : Inputs) (x : ℕ) → Written i (remove_number i x) (remove_output i x)
  -- "write the ticket with that net's bytes 255 and all others as before"
  pub bytes : (i : Inputs) (x : ℕ) → remove_number i x ≡ 0 → TakenOut (nets_in i) x i.old (assignment_in i (remove_output i x))
  -- "Of such a ticket demand 2 speaks for the placed nets alone.": "a ticket as Refit reads one" is one that is right for these
  pub legal : (i : Inputs) (x : ℕ) → remove_number i x ≡ 0 → LeftLegal i.sheet x i.old (assignment_in i (remove_output i x))
  -- whatever wires are broken: "Calls on a sheet, other than … M-100 …, also take a list", M-105
  pub tests : (i : Inputs) → WellFormed i.sheet → (x : ℕ)
      → IsNoneOf (remove_number i x) ticket_numbers ↔ PartlyLegalFor (with_dead i []) i.old
  pub no_list : (i : Inputs) (x : ℕ) (d : List ℕ)
      → (remove_number i x ≡ remove_number (with_dead i d) x) × (remove_output i x ≡ remove_output (with_dead i d) x)
  -- "Where Refit placed just one new net and moved none, this gives back the ticket from before."
  pub way_back : (i : Inputs) (x : ℕ) → (answer_of Refit i).number ≡ 0 → (answer_of Refit i).moved ≡ 0 → OneUnrouted (nets_in i) i.old x
      → (out2 : List ℕ) → let j = lent i.sheet [] (assignment_in i (output_of Refit i)) 0 out2 in
      EnoughSpace j → (remove_number j x ≡ 0) × (remove_output j x ≡ overwrite i.old out2)
  -- ---- ours

  -- demand 3 of Remove: on relistings with equal tracks, as Refit's old ones, and enough space, whatever the lists and budgets
  pub relisted : (i j : Inputs) (x : ℕ) → RemoveRelisting i j
      → SameRemoved i j (remove_number i x) (remove_number j x) (remove_output i x) (remove_output j x)
  -- under whatever list, 21 applies to what is written only if it applied to the lent ticket
  pub broken : (i : Inputs) (x : ℕ) (d : List ℕ) → remove_number i x ≡ 0
      → broken_wire true (is_dead d) (nets_in i) (assignment_in i (remove_output i x)) ≡ true → broken_wire true (is_dead d) (nets_in i) i.old ≡ true
