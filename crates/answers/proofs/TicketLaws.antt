-- The promises (specs/TicketPromises.antt) of answers and outputs that the calls gave, each once over the call: from the theorems about the
-- definitions, which Demands names. Assumes nothing.
-- passes, beside: a call, and Check on what was written or on another ticket. counted: one call. writes-whole: a success has room.
use mathlib.Core.Path.{◌≡◌, refl, sym, subst, ap, ◌∙◌}
use mathlib.Core.Logic.{◌↔◌}
use Prim.Native.Nat.{ℕ, ◌≤◌, ◌<◌}
use native.Mathlib.Omega.{arith}
use mathlib.Core.List.{List}
use lib.ListN.{length}
use Rattle.numbers.specs.Numbers.{unroutable_no}
use Rattle.grid.specs.Grid.{channel_count}
use Rattle.switchbox.specs.declared.Fabric.{Fabric}
use Rattle.netlist.specs.Netlist.{WellFormed, width_of, channels_of}
use Rattle.netlist.proofs.NetlistLaws.{readable-width, well_formed-readable}
use Rattle.defects.specs.Defects.{AcceptedList}
use Rattle.assignment.specs.Assignment.{LegalAt}
use Rattle.assignment.specs.Check.{check_of}
use Rattle.routing.specs.declared.Answer.{Answer}
use Rattle.routing.specs.declared.Call.{Call}
use Rattle.routing.specs.declared.Call.TheVariants.{Route, Least, Refit}
use Rattle.routing.specs.Outcomes.{Inputs, nets_in, moved_by, answer_of, output_of}
use Rattle.routing.specs.Results.{LegalFor, Unroutable, homes_in, assignment_in, LeastStops}
use Rattle.routing.proofs.CallLaws.{call-found, call_none}
use Rattle.routing.proofs.RefusalLaws.{number_before-clear}
use Rattle.demands.specs.Demand3.{WidthFor}
use Rattle.demands.proofs.Demands.{demands}
use Rattle.routing.proofs.WidthTheorems.{legal-any-width}
use Rattle.switchbox.specs.SwitchBox.{max_width}
use Rattle.net.specs.Nets.{entry_count}
use Rattle.answers.specs.Promises.{Gave}
use Rattle.answers.proofs.PromisesLaws.{of-what-it-gave, its-number}
use Rattle.answers.specs.TicketPromises.{CheckedOn, AtItsWidth, Passes, NoLater, Beside, Counted}

-- ---- what the numbers 0 and 15 of a call say of all assignments

-- 0: in what was written, and in every legal assignment
record Success (c : Call) (i : Inputs) (r : Answer) (after : List ℕ) : Type 0 where
  pub width : WidthFor c i r.width
  pub legal : LegalFor i r.width (assignment_in i after)
  pub no_later : (a : List ℕ) → LegalFor i r.width a → NoLater c i (assignment_in i after) a
  pub moved : r.moved ≡ moved_by c i (homes_in i (assignment_in i after))
  pub smaller : (t : List ℕ) → CheckedOn c i.sheet t → 1 ≤ width_of t → width_of t < r.width → Unroutable i (width_of t)

success : (c : Call) (i : Inputs) → (answer_of c i).number ≡ 0 → Success c i (answer_of c i) (output_of c i)
unfolding moved_by
success (Route h) i e =
    let p = demands.demand2.route_first i h e in
    record {
      width = p.0;
      legal = rw p.0 p.1.legal;
      no_later = rw p.0 p.1.first;
      moved = demands.demand1.unmoved (Route h) i (λ q. let z : ◌≡◌ {A = ℕ} 0 1 = cc in omega arith);
      smaller = λ t S l h. absurd (let w = ap width_of S in omega (arith, p.0));
    }
success (Least h) i e =
    let p = demands.demand2.least_first i h e in
    record {
      width = (p.0.low, p.0.high);
      legal = p.1.legal;
      no_later = p.1.first;
      moved = demands.demand1.unmoved (Least h) i (λ q. let z : ◌≡◌ {A = ℕ} 0 1 = cc in omega arith);
      smaller = λ t S l h. p.0.smaller (width_of t) l h;
    }
success Refit i e =
    let p = demands.demand2.refit_fewest i e in
    record {
      width = p.0;
      legal = rw p.0 p.1.legal;
      no_later = rw p.0 p.1.fewest;
      moved = p.2;
      smaller = λ t S l h. absurd (let w = ap width_of S in omega (arith, p.0));
    }

module _ (c : Call) (i : Inputs) {r : Answer} {after : List ℕ} (G : Gave c i r after) where
  succeeds : r.number ≡ 0 → Success c i r after
  succeeds e = of-what-it-gave c i G (Success c i) (success c i (its-number c i G e))

  -- the sheet is accepted, and the output has room for what was written
  pub writes-whole : r.number ≡ 0 → WellFormed i.sheet × (entry_count (nets_in i) ≤ length after)
  writes-whole e =
      let F = call-found c i (its-number c i G e) in
      (F.accepted, omega (arith, F.space, (demands.demand1.writes c i).sized, ap length G.1))

  -- and the list is accepted
  reads-list : r.number ≡ 0 → AcceptedList (channels_of i.sheet) i.dead
  reads-list e =
      (demands.dead_wires.list_exactly (channels_of i.sheet) i.dead).zero.0 (number_before-clear c i (call-found c i (its-number c i G e)).before).1

-- 15: at the width of every sheet that Check can be lent
none-at : (c : Call) (i : Inputs) → (answer_of c i).number ≡ unroutable_no
    → (t : List ℕ) → CheckedOn c i.sheet t → 1 ≤ width_of t → width_of t ≤ max_width → Unroutable i (width_of t)
none-at (Route h) i e t S l m = demands.demand3.unroutable (Route h) i e (width_of t) (ap width_of S)
none-at (Least h) i e t S l m = demands.demand3.unroutable (Least h) i e (width_of t) (l, m)
none-at Refit i e t S l m = demands.demand3.unroutable Refit i e (width_of t) (ap width_of S)

-- ---- a call and Check

-- assignments are legal for the call's sheet and for the sheet of Check alike
legal-own : (s t : List ℕ) → t ≡ s → (d : List ℕ) (w : ℕ) (b : List ℕ) → LegalAt s d w b ↔ LegalAt t d w b
legal-own s t S d w b = (subst (λ (u : List ℕ). LegalAt u d w b) (sym S), subst (λ (u : List ℕ). LegalAt u d w b) S)

legal-alike : (c : Call) (s t : List ℕ) → CheckedOn c s t → WellFormed s → WellFormed t
    → (d : List ℕ) (w : ℕ) (b : List ℕ) → LegalAt s d w b ↔ LegalAt t d w b
legal-alike (Route h) s t S p q d w b = legal-own s t S d w b
legal-alike (Least h) s t S p q d w b = legal-any-width s t p q S d w b
legal-alike Refit s t S p q d w b = legal-own s t S d w b

-- and their chips have the same channels
channels-alike : (c : Call) (s t : List ℕ) → CheckedOn c s t → channels_of s ≡ channels_of t
channels-alike (Route h) s t S = ap channels_of (sym S)
channels-alike (Least h) s t S = ap (λ (f : Fabric). channel_count f.grid) S.fabric
channels-alike Refit s t S = ap channels_of (sym S)

-- at the answer's width, W of Check's sheet is that width
its-width : (c : Call) (i : Inputs) (t : List ℕ) (r : Answer) → CheckedOn c i.sheet t → WidthFor c i r.width → AtItsWidth c r t
    → width_of t ≡ r.width
its-width (Route h) i t r S w a = ap width_of S ∙ sym w
its-width (Least h) i t r S w a = a
its-width Refit i t r S w a = ap width_of S ∙ sym w

-- what passes Check is legal for the call's sheet at Check's W
passed-legal : (c : Call) (i : Inputs) (t : List ℕ) → CheckedOn c i.sheet t → (b : List ℕ) → WellFormed i.sheet → check_of t i.dead b ≡ 0
    → (1 ≤ width_of t) × (width_of t ≤ max_width) × LegalFor i (width_of t) b
passed-legal c i t S b w z =
    let p = demands.demand2.check_legal t i.dead b z in
    let l = readable-width (well_formed-readable t p.0) in
    (l.0, l.1, (legal-alike c i.sheet t S w p.0 i.dead (width_of t) b).1 p.2)

pub passes : {c : Call} {i : Inputs} {t : List ℕ} {r : Answer} {after : List ℕ} {check : ℕ}
    → CheckedOn c i.sheet t → (WellFormed i.sheet → WellFormed t) → Gave c i r after
    → (r.number ≡ 0 → check ≡ check_of t i.dead (assignment_in i after)) → Passes c i t r after check
passes {c} {i} {t} {r} {after} S v G k = record {
  gave = G;
  checked = k;
  passes = λ e a.
      let s = succeeds c i G e in
      let w = (writes-whole c i G e).0 in
      let b = assignment_in i after in
      let l = subst (λ (x : ℕ). LegalFor i x b) (sym (its-width c i t r S s.width a)) s.legal in
      let n = subst (λ (m : ℕ). AcceptedList m i.dead) (channels-alike c i.sheet t S) (reads-list c i G e) in
      k e ∙ demands.demand2.legal_check t i.dead b (v w) n ((legal-alike c i.sheet t S w (v w) i.dead (width_of t) b).0 l);
}

pub beside : {c : Call} {i : Inputs} {t : List ℕ} {r : Answer} {after b : List ℕ} {check : ℕ}
    → CheckedOn c i.sheet t → Gave c i r after → check ≡ check_of t i.dead b → Beside c i t r after b check
beside {c} {i} {t} {r} {after} {b} S G k = record {
  gave = G;
  checked = k;
  unroutable = λ e z.
      let n = its-number c i G e in
      let p = passed-legal c i t S b (call_none c i n).0 (sym k ∙ z) in
      none-at c i n t S p.0 p.1 b p.2;
  smaller = λ e l z.
      let p = passed-legal c i t S b (writes-whole c i G e).0 (sym k ∙ z) in (succeeds c i G e).smaller t S p.0 l b p.2;
  first = λ e a z.
      let s = succeeds c i G e in
      let p = passed-legal c i t S b (writes-whole c i G e).0 (sym k ∙ z) in
      s.no_later b (subst (λ (x : ℕ). LegalFor i x b) (its-width c i t r S s.width a) p.2);
}

-- ---- one call

pub counted : {c : Call} {i : Inputs} {r : Answer} {after : List ℕ} → Gave c i r after → Counted c i r after
counted {c} {i} G = of-what-it-gave c i G (Counted c i) record {
  gave = (refl, refl);
  spent = demands.demand2.spent_exactly c i;
  refused = demands.demand1.refused c i;
  written = demands.demand1.writes c i;
  width = λ e. (success c i e).width;
  stops = λ h e. subst (λ (k : Call). LeastStops h i (answer_of k i)) (sym e) (demands.dead_wires.least_stops h i);
  moved = λ e. (success c i e).moved;
  unmoved = demands.demand1.unmoved c i;
}
