-- What a call answers and writes when its run has ended. Definitions only; that this is the whole run's outcome: proofs/EndingLaws.antt. Assumes
-- nothing.
use Rattle.std.specs.Prelude.{ℕ, ◌≤◌, List, take}
use Rattle.numbers.specs.Numbers.{unroutable_no, spent_no}
use Rattle.netlist.specs.Netlist.{nets, connected_on}
use Rattle.netsearch.specs.HomeTrack.{assignment_from}
use Rattle.routing.specs.declared.Answer.{Answer}
use Rattle.routing.specs.Outcomes.{overwrite}
use Rattle.tracksearch.specs.declared.Ended.{Ended}
use Rattle.tracksearch.specs.declared.Ended.TheVariants.{Found, Exhausted, Spent}
use Rattle.planner.specs.declared.Plan.{Plan}
use Rattle.writer.specs.Written.{Writable}
use Rattle.runs.specs.declared.Routed.{Routed}

-- what is answered: "With 15, trials is the count made; with 16 it is the budget"
abbrev pub concluded : ℕ → Ended Routed → Answer
concluded budget (Found u r) = record { number = 0; width = r.width; trials = u; moved = r.moved }
concluded budget (Exhausted u) = record { number = unroutable_no; width = 0; trials = u; moved = 0 }
concluded budget Spent = record { number = spent_no; width = 0; trials = budget; moved = 0 }

-- the output after it, where `out` stood: of the sheet s, which has n nets. "No refusal writes"
abbrev pub output_after : (s : List ℕ) (n : ℕ) → Ended Routed → (out : List ℕ) → List ℕ
output_after s n (Found u r) out = overwrite (assignment_from (connected_on s r.width) (nets s) (take n r.homes)) out
output_after s n (Exhausted u) out = out
output_after s n Spent out = out

-- what was found of the n nets can be written, and its moves fit the answer
pub record Writes (s : List ℕ) (p : Plan) (n : ℕ) (r : Routed) : Type 0 where
  pub writable : Writable s r.width p.start r.maps n r.homes
  pub few : r.moved ≤ 64
