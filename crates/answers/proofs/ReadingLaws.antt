-- The promises of Read, Record and Check (specs/Reading.antt) of what the calls gave: from the theorems about the definitions, which Demands names.
-- Assumes nothing.
-- reads, records, checks: one for each call. answers-exactly, takes-exactly, forms-exactly: when the numbers of the others come.
use mathlib.Core.Path.{◌≡◌, refl, sym, subst}
use Prim.Native.Nat.{ℕ}
use mathlib.Core.List.{List, []}
use Rattle.reader.specs.declared.Counts.{Counts}
use Rattle.reader.specs.Read.{read_of, record_of}
use Rattle.assignment.specs.Check.{check_of}
use Rattle.routing.specs.declared.Answer.{Answer}
use Rattle.routing.specs.declared.Call.{Call}
use Rattle.routing.specs.Outcomes.{Inputs, lent}
use Rattle.demands.specs.SheetCalls.{read, check, search, remove, standard}
use Rattle.demands.proofs.Demands.{demands}
use Rattle.demands.proofs.Exactly.{gives_exactly}
use Rattle.answers.specs.Promises.{Gave}
use Rattle.answers.specs.Removing.{Took}
use Rattle.answers.specs.Forming.{Formed}
use Rattle.answers.specs.Reading.{Reads, Records, Checks, AnswersExactly, TakesExactly, FormsExactly}

pub reads : (s : List ℕ) {r : Counts} → r ≡ read_of s → Reads s r
reads s e = subst (Reads s) (sym e) record {
  gave = refl;
  uses = demands.demand1.uses read (lent s [] [] 0 []);
  numbers = gives_exactly.numbers read (lent s [] [] 0 []);
  exactly = gives_exactly.reads s;
}

pub records : (s : List ℕ) (k : ℕ) {bytes : List ℕ} → bytes ≡ record_of s k → Records s k bytes
records s k e = subst (Records s k) (sym e) record { gave = refl; exactly = gives_exactly.records s k }

pub checks : (s d b : List ℕ) {n : ℕ} → n ≡ check_of s d b → Checks s d b n
checks s d b e = subst (Checks s d b) (sym e) record {
  gave = refl;
  uses = demands.demand1.uses check (lent s d b 0 []);
  numbers = gives_exactly.numbers check (lent s d b 0 []);
  legal = (demands.demand2.check_legal s d b, λ h. demands.demand2.legal_check s d b h.0 h.1 h.2);
}

pub answers-exactly : (c : Call) (i : Inputs) {r : Answer} {after : List ℕ} → Gave c i r after → AnswersExactly c i r.number
answers-exactly c i G = subst (λ (r : Answer). AnswersExactly c i r.number) (sym G.0) (gives_exactly.numbers (search c) i)

pub takes-exactly : (i : Inputs) {x n : ℕ} {after : List ℕ} → Took i x n after → TakesExactly i x n
takes-exactly i {x} T = subst (TakesExactly i x) (sym T.0) (gives_exactly.numbers (remove x) i)

pub forms-exactly : (s out : List ℕ) {n : ℕ} {after : List ℕ} → Formed s out n after → FormsExactly s out n
forms-exactly s out F = subst (FormsExactly s out) (sym F.0) (gives_exactly.numbers standard (lent s [] [] 0 out))
