-- What the numbers 0 and 15 of a call say of its run. Assumes nothing.
-- call-found: the run found something, and it is the answer and stands in the output. call_none: the run found nothing.
use mathlib.Core.Path.{◌≡◌}
use Prim.Native.Nat.{ℕ}
use mathlib.Core.List.{List}
use Rattle.numbers.specs.Numbers.{unroutable_no}
use Rattle.backtracking.specs.Search.{trials}
use Rattle.backtracking.proofs.SearchLaws.{Finds, Fails}
use Rattle.netlist.specs.Netlist.{WellFormed}
use Rattle.routing.specs.Equivalent.{EnoughSpace}
use Rattle.routing.specs.declared.Call.{Call}
use Rattle.routing.specs.Outcomes.{Inputs, run, moved_by, number_before, answer_of, output_of}
use Rattle.routing.specs.Results.{assignment_in}
use Rattle.routing.proofs.FixedLaws.{assignment_of}
use Rattle.routing.proofs.FoundLaws.{success-writes}
use Rattle.routing.proofs.OutcomeLaws.{answer-found, answer-none}
use Rattle.routing.proofs.RefusalLaws.{number_before-not-unroutable, number_before-zero}

pub record CallFound (c : Call) (i : Inputs) : Type 0 where
  pub before : number_before c i ≡ 0
  pub accepted : WellFormed i.sheet
  pub space : EnoughSpace i
  pub width : ℕ
  pub tracks : List ℕ
  pub finds : Finds (run c i) (width, tracks)
  pub says : answer_of c i ≡ record { number = 0; width = width; trials = trials (run c i); moved = moved_by c i tracks }
  pub writes : assignment_in i (output_of c i) ≡ assignment_of i width tracks

module _ (c : Call) (i : Inputs) where
  pub call-found : (answer_of c i).number ≡ 0 → CallFound c i
  unfolding answer_of output_of
  call-found e =
      let S = answer-found (number_before c i) i.budget (moved_by c i) (run c i) e in
      let z = number_before-zero c i S.refusal in
      record {
        before = S.refusal;
        accepted = z.0;
        space = z.1;
        width = S.width;
        tracks = S.tracks;
        finds = S.finds;
        says = S.says;
        writes = success-writes (number_before c i) (moved_by c i) (run c i) i S;
      }

  pub call_none : (answer_of c i).number ≡ unroutable_no → WellFormed i.sheet × Fails (run c i)
  unfolding answer_of
  call_none e =
      let n = answer-none (number_before c i) i.budget (moved_by c i) (run c i) (number_before-not-unroutable c i) e in
      ((number_before-zero c i n.0).0, n.1)
