-- Laws of the width in use (specs/Results.antt, last_width). Assumes nothing.
-- widths-run: Least's run is through the plain searches of its widths. least-stops: what the width in use is in Least, by the answer.
-- least-alike: with broken wires that agree below it, the run is equal, or both runs need more than the budget.
use mathlib.Core.Path.{◌≡◌, refl, sym, subst, ap, ◌∙◌}
use mathlib.Core.Logic.{◌⊎◌, ◌≢◌, inl, inr}
use Prim.Native.Nat.{ℕ, zero, suc, ◌-◌, ◌≤◌, ◌<◌}
use native.Mathlib.Omega.{arith}
use native.Mathlib.Decide.{dec_le, dec_lt}
use mathlib.Core.List.{List}
use Rattle.numbers.specs.Numbers.{unroutable_no, spent_no}
use Rattle.backtracking.specs.Search.{Outcome, found, not_found, trials, first_of}
use Rattle.backtracking.specs.Ends.{is_found, trials_of, end_from}
use Rattle.backtracking.proofs.EndLaws.{NoneBefore, end-bounds, end_before, end-there, ends-no, ends-yes, trials-le, trials-end, trials-same, end_same, ends-alike}
use Rattle.backtracking.proofs.SearchLaws.{Finds, Fails, never, FoundAt, first_finds, first-fails}
use Rattle.grid.specs.Grid.{meet}
use Rattle.netlist.specs.Netlist.{WellFormed, grid_of}
use Rattle.netlist.proofs.SheetLaws.{well_formed-accepted, well_formed-connects}
use Rattle.defects.specs.Defects.{is_dead, SameBelow}
use Rattle.netsearch.specs.PlainSearch.{at_width, narrowest, widths_tried, plain_search, least_search}
use Rattle.netsearch.specs.declared.Search.{Search}
use Rattle.netsearch.proofs.DeadLaws.{plain-agree}
use Rattle.netsearch.proofs.SearchByLaws.{at_width-finds}
use Rattle.routing.specs.declared.Answer.{Answer}
use Rattle.routing.specs.Outcomes.{Inputs, board_in, with_dead, nets_in, search_at, run, number_before, answer_of}
use Rattle.routing.specs.Results.{last_width, LeastStops}
use Rattle.routing.specs.declared.Call.TheVariants.{Least}
use Rattle.routing.proofs.BudgetTheorems.{call-spent, call-refused}
use Rattle.routing.proofs.CallLaws.{CallFound, call-found, call_none}
use Rattle.routing.proofs.RefusalLaws.{number_before-not-unroutable}

-- ---- the run through the widths

-- the searches with their widths have the same trials, and find where they do
at-trials : (w : ℕ) (o : Outcome (List ℕ)) → trials (at_width w o) ≡ trials o
unfolding at_width
at-trials w (found hs c) = refl
at-trials w (not_found c) = refl

at-found : (w : ℕ) (o : Outcome (List ℕ)) → is_found (at_width w o) ≡ is_found o
unfolding at_width
at-found w (found hs c) = refl
at-found w (not_found c) = refl

module _ (h : Search) (i : Inputs) where
  abbrev at : ℕ → Outcome (ℕ × List ℕ)
  at w = at_width w (search_at h i w)

  -- the widths behind the first
  abbrev more : ℕ
  more = widths_tried - narrowest

  widths-run : run (Least h) i ≡ first_of at (suc more) narrowest
  unfolding run least_search plain_search
  widths-run = refl

  abbrev end : ℕ
  end = end_from at i.budget more narrowest

  last_end : last_width (Least h) i ≡ end
  unfolding last_width
  last_end = sym (end_same at (search_at h i) (λ w. at-trials w (search_at h i w)) (λ w. at-found w (search_at h i w)) i.budget more narrowest)

  to_end : (w : ℕ) → trials_of at w narrowest ≡ trials_of (search_at h i) w narrowest
  to_end w = trials-same at (search_at h i) (λ v. at-trials v (search_at h i v)) (λ v. at-found v (search_at h i v)) w narrowest

  bounds : (1 ≤ end) × (end ≤ widths_tried)
  bounds = end-bounds at i.budget more narrowest

  none_before : NoneBefore at end narrowest
  none_before v p q = (ends-no at i.budget v (end_before at i.budget more narrowest v p (omega arith))).0

  -- the trials up to there are of the run
  trials-run : trials_of at end narrowest ≤ trials (run (Least h) i)
  trials-run = rw widths-run (trials-le at (suc more) end narrowest bounds.1 none_before)

  -- a run that is not spent ends before the last width only where it finds something
  ends_found : trials (run (Least h) i) ≤ i.budget → end < widths_tried → (a : ℕ × List ℕ) × Finds (at end) a
  ends_found l h = by (ends-yes at i.budget end (end-there at i.budget more narrowest h))
    where
      by : ((a : ℕ × List ℕ) × Finds (at end) a) ⊎ (i.budget < trials_of at end narrowest) → (a : ℕ × List ℕ) × Finds (at end) a
      by (inl f) = f
      by (inr m) = absurd (omega (arith, trials-run))

  unspent : (answer_of (Least h) i).number ≢ spent_no → number_before (Least h) i ≡ 0 → trials (run (Least h) i) ≤ i.budget
  unspent n z = by (dec_le (trials (run (Least h) i)) i.budget)
    where
      by : Dec (trials (run (Least h) i) ≤ i.budget) → trials (run (Least h) i) ≤ i.budget
      by (yes l) = l
      by (no l) = absurd (n ((call-spent (Least h) i).exactly.1 (z, omega arith)))

  -- the width found
  stops-found : (answer_of (Least h) i).number ≡ 0 → last_width (Least h) i ≡ (answer_of (Least h) i).width
  stops-found e = last_end ∙ by (dec_lt end P.0) (dec_lt P.0 end) ∙ sym Q.0 ∙ sym (ap (λ (a : Answer). a.width) F.says)
    where
      F : CallFound (Least h) i
      F = call-found (Least h) i e

      P : FoundAt at (suc more) narrowest (F.width, F.tracks)
      P = first_finds at (suc more) narrowest (F.width, F.tracks) (subst (λ (o : Outcome (ℕ × List ℕ)). Finds o (F.width, F.tracks)) widths-run F.finds)

      Q : (F.width ≡ P.0) × Finds (search_at h i P.0) F.tracks
      Q = at_width-finds P.0 (search_at h i P.0) (F.width, F.tracks) P.3

      by : Dec (end < P.0) → Dec (P.0 < end) → end ≡ P.0
      by (yes l) d =
          let f = ends_found (unspent (λ q. omega arith) F.before) (omega (arith, P.2)) in
          absurd (never (at end) f.0 f.1 (P.4 end bounds.0 l))
      by (no l) (yes h) =
          absurd (never (at P.0) (F.width, F.tracks) P.3 (ends-no at i.budget P.0 (end_before at i.budget more narrowest P.0 P.1 h)).0)
      by (no l) (no h) = omega arith

  -- all 32
  stops-none : (answer_of (Least h) i).number ≡ unroutable_no → last_width (Least h) i ≡ widths_tried
  stops-none e = last_end ∙ by (dec_lt end widths_tried)
    where
      fails : Fails (first_of at (suc more) narrowest)
      fails = subst Fails widths-run (call_none (Least h) i e).1

      tried : number_before (Least h) i ≡ 0
      tried = at_zero (dec_le (number_before (Least h) i) 0)
        where
          at_zero : Dec (number_before (Least h) i ≤ 0) → number_before (Least h) i ≡ 0
          at_zero (yes l) = omega arith
          at_zero (no l) = absurd (number_before-not-unroutable (Least h) i (sym ((call-refused (Least h) i).before (λ z. l (omega arith))) ∙ e))

      by : Dec (end < widths_tried) → end ≡ widths_tried
      by (no l) = omega (arith, bounds.1)
      by (yes l) =
          let f = ends_found (unspent (λ q. omega arith) tried) l in
          absurd (never (at end) f.0 f.1 (first-fails at (suc more) narrowest fails end bounds.0 (omega arith)))

  -- the width at which the budget ran out
  stops-spent : (answer_of (Least h) i).number ≡ spent_no → i.budget < trials_of (search_at h i) (last_width (Least h) i) narrowest
  stops-spent e =
      subst (λ (w : ℕ). i.budget < trials_of (search_at h i) w narrowest) (sym last_end) (subst (λ (x : ℕ). i.budget < x) (to_end end) (by (at end) refl))
    where
      over : i.budget < trials (run (Least h) i)
      over = ((call-spent (Least h) i).exactly.0 e).1

      -- where the run stops there, its trials are those up to there
      all : ((a : ℕ × List ℕ) × Finds (at end) a) ⊎ ((end ≡ widths_tried) × Fails (at end)) → i.budget < trials_of at end narrowest
      all S = subst (λ (x : ℕ). i.budget < x) (ap trials widths-run ∙ trials-end at (suc more) end bounds.0 bounds.1 none_before S) over

      by : (o : Outcome (ℕ × List ℕ)) → at end ≡ o → i.budget < trials_of at end narrowest
      by (found a n) q = all (inl (a, (n, q)))
      by (not_found n) q = last (dec_lt end widths_tried)
        where
          last : Dec (end < widths_tried) → i.budget < trials_of at end narrowest
          last (no l) = all (inr (omega (arith, bounds.1), (n, q)))
          last (yes l) = stops (ends-yes at i.budget end (end-there at i.budget more narrowest l))
            where
              stops : ((a : ℕ × List ℕ) × Finds (at end) a) ⊎ (i.budget < trials_of at end narrowest) → i.budget < trials_of at end narrowest
              stops (inl f) = absurd (never (at end) f.0 f.1 (n, q))
              stops (inr m) = m

  -- and not before
  stops-before : (w : ℕ) → w < end → trials_of at w narrowest ≤ i.budget
  unfolding trials_of
  stops-before zero l = omega arith
  stops-before (suc w) l = (ends-no at i.budget (suc w) (end_before at i.budget more narrowest (suc w) (omega arith) l)).1

  pub least-stops : LeastStops h i (answer_of (Least h) i)
  least-stops = record {
    found = stops-found;
    none = stops-none;
    spent = stops-spent;
    before = λ w l. omega (arith, to_end w, stops-before w (omega (arith, last_end)));
  }

-- with broken wires that agree below the width in use
pub least-alike : (h : Search) (i : Inputs) (e : List ℕ) → WellFormed i.sheet → SameBelow (last_width (Least h) i) i.dead e
    → (run (Least h) i ≡ run (Least h) (with_dead i e)) ⊎ ((i.budget < trials (run (Least h) i)) × (i.budget < trials (run (Least h) (with_dead i e))))
least-alike h i e a D =
    rw (widths-run h i, widths-run h (with_dead i e))
    (ends-alike (at h i) (at h (with_dead i e)) i.budget (more h i) (λ v p q.
    ap (at_width v)
    (plain-agree (board_in i) (is_dead e) v (λ u l. D u (omega (arith, last_end h i))) (meet (grid_of i.sheet))
    (well_formed-connects i.sheet a v) (nets_in i) (well_formed-accepted i.sheet a) h)))
