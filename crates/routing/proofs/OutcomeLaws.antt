-- Laws of the answer and the output (specs/Outcomes.antt), over any run o and any number x before it. Assumes nothing.
-- answer, output: within the budget, and over it. answer-spent: 16 comes exactly if o needs more trials. answer-before, answer-after: which
-- number; answer-others, answer-trials, answer-unmoved: what is 0. answer-larger: a larger budget. answer-found, answer-none: what 0 and 15
-- say of o. output-written: what is written.
use mathlib.Core.Path.{◌≡◌, refl, sym, subst, ap, ◌∙◌}
use mathlib.Core.Logic.{◌⊎◌, ◌↔◌, ◌≢◌, inl, inr}
use Prim.Native.Nat.{ℕ, zero, suc, ◌≤◌, ◌<◌}
use native.Mathlib.Omega.{arith}
use native.Mathlib.Decide.{dec_le}
use mathlib.Core.List.{List}
use lib.ListN.{length, drop}
use borrow.Author.Tests.{lt-ltb, le-ltb}
use Rattle.numbers.specs.Numbers.{unroutable_no, spent_no}
use Rattle.backtracking.specs.Search.{Outcome, found, not_found, trials}
use Rattle.backtracking.proofs.SearchLaws.{Finds, Fails}
use Rattle.net.specs.Nets.{entry_count}
use Rattle.netlist.specs.Netlist.{nets, connected_on}
use Rattle.netsearch.specs.HomeTrack.{assignment_from}
use Rattle.netsearch.proofs.ByteLaws.{assignment_from-length}
use Rattle.routing.specs.declared.Answer.{Answer}
use Rattle.routing.specs.Equivalent.{EnoughSpace}
use Rattle.routing.specs.Outcomes.{Inputs, refused, finished, answer, overwrite, written_by, output}
use Rattle.routing.specs.Results.{Written}
use Rattle.routing.proofs.OverwriteLaws.{overwrite-later, overwrite-length}

-- what `SpentExactly` says, of the number x before any trial and the run o
abbrev pub Spent : ℕ → ℕ → Outcome (ℕ × List ℕ) → Answer → Type 0
Spent x budget o a =
    ((a.number ≡ spent_no) ↔ ((x ≡ 0) × (budget < trials o)))
    × (a.number ≡ spent_no → a.trials ≡ budget)
    × (x ≡ 0 → a.number ≢ spent_no → a.trials ≡ trials o)

-- the numbers that come after trials
abbrev pub AfterTrials : Answer → Type 0
AfterTrials a = (a.number ≡ 0) ⊎ ((a.number ≡ unroutable_no) ⊎ (a.number ≡ spent_no))

-- a refusal has no width and no moves
abbrev NoOthers : Answer → Type 0
NoOthers a = a.number ≢ 0 → (a.width ≡ 0) × (a.moved ≡ 0)

-- ---- answer, output

module _ (budget : ℕ) (o : Outcome (ℕ × List ℕ)) where
  pub answer-within : (moved : List ℕ → ℕ) → trials o ≤ budget → answer 0 budget moved o ≡ finished moved o
  unfolding answer
  answer-within moved h = rw (le-ltb budget (trials o) h, answer)

  pub answer-over : (moved : List ℕ → ℕ) → budget < trials o
      → answer 0 budget moved o ≡ record { number = 16; width = 0; trials = budget; moved = 0 }
  unfolding answer
  answer-over moved h = rw (lt-ltb budget (trials o) h, answer)

  pub output-within : (s out : List ℕ) → trials o ≤ budget → output 0 budget s o out ≡ written_by s o out
  unfolding output
  output-within s out h = rw (le-ltb budget (trials o) h, output)

  pub output-over : (s out : List ℕ) → budget < trials o → output 0 budget s o out ≡ out
  unfolding output
  output-over s out h = rw (lt-ltb budget (trials o) h, output)

-- what a whole run answers is not 16, and has its trials
finished-trials : (moved : List ℕ → ℕ) (o : Outcome (ℕ × List ℕ))
    → ((finished moved o).number ≢ 16) × ((finished moved o).trials ≡ trials o)
unfolding finished
finished-trials moved (found a c) = (omega arith, refl)
finished-trials moved (not_found c) = (omega arith, refl)

-- what a whole run answers is 0 or 15, and 15 has no width and no moves
finished-number : (moved : List ℕ → ℕ) (o : Outcome (ℕ × List ℕ)) → AfterTrials (finished moved o)
unfolding finished
finished-number moved (found a c) = inl refl
finished-number moved (not_found c) = inr (inl refl)

finished-others : (moved : List ℕ → ℕ) (o : Outcome (ℕ × List ℕ)) → NoOthers (finished moved o)
unfolding finished
finished-others moved (found a c) n = absurd (n refl)
finished-others moved (not_found c) n = (refl, refl)

finished-unmoved : (moved : List ℕ → ℕ) → ((hs : List ℕ) → moved hs ≡ 0) → (o : Outcome (ℕ × List ℕ)) → (finished moved o).moved ≡ 0
unfolding finished
finished-unmoved moved m (found a c) = m a.1
finished-unmoved moved m (not_found c) = refl

module _ (budget : ℕ) (moved : List ℕ → ℕ) (o : Outcome (ℕ × List ℕ)) where
  -- not spent: within the budget
  answer-not : (answer 0 budget moved o).number ≢ 16 → trials o ≤ budget
  answer-not h = at (dec_le (trials o) budget)
    where
      at : Dec (trials o ≤ budget) → trials o ≤ budget
      at (yes l) = l
      at (no l) = absurd (h (ap (λ (a : Answer). a.number) (answer-over budget o moved (omega arith))))

  -- 16 comes exactly if the run needs more trials than the budget
  pub answer-spent : (x : ℕ) → x ≢ spent_no → Spent x budget o (answer x budget moved o)
  unfolding answer
  answer-spent (suc x) l = (
    ((λ e. absurd (l e)), (λ h. absurd (omega (arith, h.0)))),
    (λ e. absurd (l e)),
    (λ z n. absurd (omega arith)),
  )
  answer-spent zero l = at (dec_le (trials o) budget)
    where
      at : Dec (trials o ≤ budget) → Spent 0 budget o (answer 0 budget moved o)
      at (yes h) =
          let e = answer-within budget o moved h in
          let f = finished-trials moved o in (
            ((λ q. absurd (f.0 (ap (λ (a : Answer). a.number) (sym e) ∙ q))), (λ q. absurd (omega (arith, q.1)))),
            (λ q. absurd (f.0 (ap (λ (a : Answer). a.number) (sym e) ∙ q))),
            (λ z n. ap (λ (a : Answer). a.trials) e ∙ f.1),
          )
      at (no h) =
          let e = answer-over budget o moved (omega arith) in (
            ((λ q. (refl, omega arith)), (λ q. ap (λ (a : Answer). a.number) e)),
            (λ q. ap (λ (a : Answer). a.trials) e),
            (λ z n. absurd (n (ap (λ (a : Answer). a.number) e))),
          )

  -- the number before any trial, where it is not 0
  pub answer-before : (x : ℕ) → x ≢ 0 → answer x budget moved o ≡ refused x
  unfolding answer
  answer-before (suc x) n = refl
  answer-before zero n = absurd (n refl)

  -- else 0, 15 or 16
  pub answer-after : AfterTrials (answer 0 budget moved o)
  answer-after = at (dec_le (trials o) budget)
    where
      at : Dec (trials o ≤ budget) → AfterTrials (answer 0 budget moved o)
      at (yes h) = subst AfterTrials (sym (answer-within budget o moved h)) (finished-number moved o)
      at (no h) = subst AfterTrials (sym (answer-over budget o moved (omega arith))) (inr (inr refl))

  pub answer-others : (x : ℕ) → NoOthers (answer x budget moved o)
  unfolding answer
  answer-others (suc x) n = (refl, refl)
  answer-others zero n = at (dec_le (trials o) budget) n
    where
      at : Dec (trials o ≤ budget) → NoOthers (answer 0 budget moved o)
      at (yes h) = subst NoOthers (sym (answer-within budget o moved h)) (finished-others moved o)
      at (no h) = subst NoOthers (sym (answer-over budget o moved (omega arith))) (λ n. (refl, refl))

  -- what was not tried has no trials
  pub answer-trials : (x : ℕ) → (answer x budget moved o).number ≢ 0 → (answer x budget moved o).number ≢ unroutable_no
      → (answer x budget moved o).number ≢ spent_no → (answer x budget moved o).trials ≡ 0
  unfolding answer
  answer-trials (suc x) n u s = refl
  answer-trials zero n u s = absurd (at answer-after)
    where
      at : AfterTrials (answer 0 budget moved o) → ⊥
      at (inl e) = n e
      at (inr (inl e)) = u e
      at (inr (inr e)) = s e

  -- where nothing counts as moved, the answer's moved is 0
  pub answer-unmoved : ((hs : List ℕ) → moved hs ≡ 0) → (x : ℕ) → (answer x budget moved o).moved ≡ 0
  unfolding answer
  answer-unmoved m (suc x) = refl
  answer-unmoved m zero = at (dec_le (trials o) budget)
    where
      at : Dec (trials o ≤ budget) → (answer 0 budget moved o).moved ≡ 0
      at (yes h) = ap (λ (a : Answer). a.moved) (answer-within budget o moved h) ∙ finished-unmoved moved m o
      at (no h) = ap (λ (a : Answer). a.moved) (answer-over budget o moved (omega arith))

  -- any verdict but 16 stays, with the whole output, however far the budget is raised
  pub answer-larger : (x larger : ℕ) → budget ≤ larger → (answer x budget moved o).number ≢ 16
      → (answer x larger moved o ≡ answer x budget moved o) × ((s out : List ℕ) → output x larger s o out ≡ output x budget s o out)
  unfolding answer output
  answer-larger (suc x) larger l n = (refl, λ s out. refl)
  answer-larger zero larger l n =
      let h = answer-not n in (
        answer-within larger o moved (omega arith) ∙ sym (answer-within budget o moved h),
        λ s out. output-within larger o s out (omega arith) ∙ sym (output-within budget o s out h),
      )

-- what the number 0 says: the run found something, and it is the answer and the output
pub record Success (x budget : ℕ) (moved : List ℕ → ℕ) (o : Outcome (ℕ × List ℕ)) : Type 0 where
  pub refusal : x ≡ 0
  pub width : ℕ
  pub tracks : List ℕ
  pub finds : Finds o (width, tracks)
  pub says : answer x budget moved o ≡ record { number = 0; width = width; trials = trials o; moved = moved tracks }
  pub writes : (s out : List ℕ) → output x budget s o out ≡ overwrite (assignment_from (connected_on s width) (nets s) tracks) out

-- a number other than 16 is that of the whole run
number-finished : (budget : ℕ) (moved : List ℕ → ℕ) (o : Outcome (ℕ × List ℕ)) (n : ℕ) → n ≢ 16 → (answer 0 budget moved o).number ≡ n
    → (trials o ≤ budget) × ((finished moved o).number ≡ n)
number-finished budget moved o n h e =
    let l = answer-not budget moved o (λ q. h (sym e ∙ q)) in
    (l, ap (λ (a : Answer). a.number) (sym (answer-within budget o moved l)) ∙ e)

pub answer-found : (x budget : ℕ) (moved : List ℕ → ℕ) (o : Outcome (ℕ × List ℕ)) → (answer x budget moved o).number ≡ 0
    → Success x budget moved o
unfolding answer finished written_by
answer-found (suc x) budget moved (found a c) e = absurd (omega arith)
answer-found (suc x) budget moved (not_found c) e = absurd (omega arith)
answer-found zero budget moved (not_found c) e = absurd (omega (arith, (number-finished budget moved (not_found c) 0 (omega arith) e).1))
answer-found zero budget moved (found a c) e =
    let l = (number-finished budget moved (found a c) 0 (omega arith) e).0 in
    record {
      refusal = refl;
      width = a.0;
      tracks = a.1;
      finds = (c, refl);
      says = answer-within budget (found a c) moved l;
      writes = λ s out. output-within budget (found a c) s out l;
    }

-- what the number 15 says: the run found nothing
pub answer-none : (x budget : ℕ) (moved : List ℕ → ℕ) (o : Outcome (ℕ × List ℕ)) → x ≢ unroutable_no
    → (answer x budget moved o).number ≡ unroutable_no → (x ≡ 0) × Fails o
unfolding answer finished
answer-none (suc x) budget moved o l e = absurd (l e)
answer-none zero budget moved (found a c) l e = absurd (omega (arith, (number-finished budget moved (found a c) unroutable_no (omega arith) e).1))
answer-none zero budget moved (not_found c) l e = (refl, (c, refl))

-- ---- what is written

-- x is 0 only where there is enough space
pub output-written : (i : Inputs) (moved : List ℕ → ℕ) (x : ℕ) (o : Outcome (ℕ × List ℕ))
    → (x ≡ 0 → EnoughSpace i) → Written i (answer x i.budget moved o).number (output x i.budget i.sheet o i.out)
unfolding output finished
output-written i moved (suc x) o p = record { sized = refl; refused = λ n. refl; later = refl }
output-written i moved zero o p = at (dec_le (trials o) i.budget) o refl
  where
    s : List ℕ
    s = i.sheet

    kept : output 0 i.budget s o i.out ≡ i.out → Written i (answer 0 i.budget moved o).number (output 0 i.budget s o i.out)
    kept e = record { sized = ap length e; refused = λ n. e; later = ap (drop (entry_count (nets s))) e }

    at : Dec (trials o ≤ i.budget) → (q : Outcome (ℕ × List ℕ)) → o ≡ q
        → Written i (answer 0 i.budget moved o).number (output 0 i.budget s o i.out)
    at (no h) q e = kept (output-over i.budget o s i.out (omega arith))
    at (yes h) (not_found c) e = kept (output-within i.budget o s i.out h ∙ ap (λ (q : Outcome (ℕ × List ℕ)). written_by s q i.out) e)
    at (yes h) (found a c) e =
        let b = assignment_from (connected_on s a.0) (nets s) a.1 in
        let l = assignment_from-length (connected_on s a.0) (nets s) a.1 in
        let w = output-within i.budget o s i.out h ∙ ap (λ (q : Outcome (ℕ × List ℕ)). written_by s q i.out) e in
        let f = answer-within i.budget o moved h ∙ ap (finished moved) e in
        record {
          sized = ap length w ∙ overwrite-length b i.out (omega (arith, p refl));
          refused = λ n. absurd (n (ap (λ (a : Answer). a.number) f));
          later = ap (drop (entry_count (nets s))) w ∙ overwrite-later b i.out (entry_count (nets s)) l;
        }
