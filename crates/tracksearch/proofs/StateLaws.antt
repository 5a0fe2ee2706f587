-- Laws of a search's state and of how it ended (specs/State.antt). Assumes nothing.
-- chosen: one net more, its length. free_in: the code's test is that of the plan. StateOf: no net placed, one net more.
-- Restored: one track after the other. run_of: what follows a run, by how it ended.
use mathlib.Core.Path.{◌≡◌, refl, sym, ap, ap₂, ◌∙◌}
use mathlib.Core.Bool.{Bool, true, false, not, ◌&&◌, ◌||◌, or_comm, or-false}
use mathlib.Core.List.{List, [], ◌∷◌, ◌++◌}
use Prim.Native.Nat.{ℕ, suc, ◌+◌, ◌-◌, ◌*◌, ◌≤◌, ◌<◌}
use native.Mathlib.Omega.{arith}
use native.Mathlib.Numerals.{add-one}
use native.Mathlib.Nat.{suc-mul}
use borrow.Author.Tests.{le-leb, lt-leb}
use lib.Dec.{leb}
use lib.ListN.{length, take, set, length-set}
use lib.Seq.{length-take-le, take-set-le, take-suc-set}
use Rattle.bounded.specs.Bounded.{every, any_below}
use Rattle.bounded.proofs.BoundedLaws.{every-same}
use Rattle.marks.specs.Marks.{held_at}
use Rattle.backtracking.specs.Budget.{Run}
use Rattle.backtracking.proofs.BudgetLaws.{and_then}
use Rattle.wires.specs.Wires.{size_of, chan_of, track_of, holds, NetFits, free_in, laid}
use Rattle.wires.proofs.TablesLaws.{track_of-lt}
use Rattle.wires.proofs.WiresLaws.{laid-holds}
use Rattle.tracksearch.specs.declared.State.{State}
use Rattle.tracksearch.specs.declared.Ended.{Ended}
use Rattle.tracksearch.specs.declared.Ended.TheVariants.{Found, Exhausted, Spent}
use Rattle.tracksearch.specs.Plan.{SearchTables, move_from, moves_from, held_by_nets, held_by, free, plan_fits, NetsFit}
use Rattle.tracksearch.specs.State.{chosen, StateOf, run_of, InBudget}
use Rattle.tracksearch.proofs.PlanLaws.{held_by-more, moves_from-more}

-- ---- chosen

-- the home tracks beyond those chosen may be any
pub chosen_more : (m : State) (homes : List ℕ) (t : ℕ) → length homes ≡ 64 → m.placed < 64 → take m.placed homes ≡ chosen m
    → take (m.placed + 1) (set homes m.placed t) ≡ chosen m ++ (t ∷ [])
chosen_more m homes t l h e = rw add-one (take-suc-set homes m.placed t (omega arith)) ∙ ap (λ (hs : List ℕ). hs ++ (t ∷ [])) e

pub chosen-length : (m : State) → length m.homes ≡ 64 → m.placed ≤ 64 → length (chosen m) ≡ m.placed
chosen-length m e h = length-take-le m.placed m.homes (omega arith)

-- ---- free_in: the test of the code for the next net is that of the plan

module _ (p : SearchTables) (n : ℕ) (m : State)
    (fits : NetsFit p.nets n) (room : m.placed < n) (state : StateOf p m) (long : length m.homes ≡ 64)
    (t : ℕ) (low : t < p.nets.width) where
  count : length (chosen m) ≡ m.placed
  count = chosen-length m long (omega (arith, fits.count))

  free_in-free : free_in p.nets m.taken m.placed t ≡ free p (chosen m) t
  unfolding free_in free track_of
  free_in-free =
      let ns = p.nets in
      let f = fits.each m.placed room in
      every-same (size_of ns m.placed) _ _
      (λ i l.
      ap not
      (state.marks (chan_of ns m.placed i) (track_of ns m.placed i t)
      (f.channels i l)
      (omega (arith, track_of-lt ns m.placed i t f l low, fits.width))))
      ∙ ap (λ (k : ℕ). every (size_of ns k) (λ i. not (held_by p (chosen m) (chan_of ns k i) (track_of ns k i t)))) (sym count)

  -- the moves with the net under trial
  abbrev moved : ℕ
  moved = m.moved + move_from p.old m.placed t

  moved_same : moved ≡ moves_from p.old (chosen m) (length (chosen m)) + move_from p.old (length (chosen m)) t
  moved_same =
      ap (λ (x : ℕ). x + move_from p.old m.placed t) state.moves
      ∙ ap (λ (k : ℕ). moves_from p.old (chosen m) k + move_from p.old k t) (sym count)

  plan_fits-test : plan_fits p (chosen m) t ≡ (free_in p.nets m.taken m.placed t && leb moved p.limit)
  unfolding plan_fits
  plan_fits-test = sym (ap₂ (λ (a : Bool) (x : ℕ). a && leb x p.limit) free_in-free moved_same)

  pub plan_fits-held : free_in p.nets m.taken m.placed t ≡ false → plan_fits p (chosen m) t ≡ false
  plan_fits-held e = plan_fits-test ∙ ap (λ (a : Bool). a && leb moved p.limit) e

  pub plan_fits-far : free_in p.nets m.taken m.placed t ≡ true → p.limit < moved → plan_fits p (chosen m) t ≡ false
  plan_fits-far e l = plan_fits-test ∙ ap₂ ◌&&◌ e (lt-leb moved p.limit l)

  pub plan_fits-free : free_in p.nets m.taken m.placed t ≡ true → moved ≤ p.limit → plan_fits p (chosen m) t ≡ true
  plan_fits-free e l = plan_fits-test ∙ ap₂ ◌&&◌ e (le-leb moved p.limit l)

-- ---- StateOf

-- no net is placed
pub state-start : (p : SearchTables) (homes : List ℕ) → StateOf p (record { taken = p.marks; homes = homes; placed = 0; moved = 0 })
unfolding held_by held_by_nets any_below moves_from
state-start p homes = record { marks = λ c x h l. sym (or-false (held_at p.marks c x)); moves = refl }

-- one net more
pub state-more :
    (p : SearchTables) (m next : State) (t : ℕ) → length m.homes ≡ 64 → length m.taken ≡ 480 → m.placed < 64
    → StateOf p m → NetFits p.nets m.placed
    → free_in p.nets m.taken m.placed t ≡ true
    → next.taken ≡ laid p.nets m.taken m.placed t
    → next.placed ≡ m.placed + 1 → chosen next ≡ chosen m ++ (t ∷ [])
    → next.moved ≡ m.moved + move_from p.old m.placed t
    → StateOf p next
state-more p m next t long long_marks room s f e q d hs r =
    let k = m.placed in
    let n = chosen-length m long (omega arith) in
    record {
      marks = λ c x h l.
          ap (λ (y : List ℕ). held_at y c x) q
          ∙ laid-holds p.nets m.taken k t f long_marks e c x
          ∙ ap (λ (b : Bool). holds p.nets k t c x || b) (s.marks c x h l)
          ∙ or_comm (holds p.nets k t c x) (held_by p (chosen m) c x)
          ∙ ap (λ (j : ℕ). held_by p (chosen m) c x || holds p.nets j t c x) (sym n)
          ∙ sym (held_by-more p (chosen m) t c x)
          ∙ ap (λ (l : List ℕ). held_by p l c x) (sym hs);
      moves =
          r
          ∙ ap (λ (y : ℕ). y + move_from p.old k t) s.moves
          ∙ sym (moves_from-more p.old (chosen m) t k (sym n))
          ∙ ap₂ (moves_from p.old) (sym hs) (sym d);
    }

-- ---- Restored

-- m is the state s again, between two tracks of its next net: that net is counted as placed, its home track and its move are of no account
pub record Restored (s m : State) : Type 0 where
  pub entered : (length s.homes ≡ 64) × (length s.taken ≡ 480)
  pub long : length m.homes ≡ 64
  pub marks : m.taken ≡ s.taken
  pub homes : take s.placed m.homes ≡ chosen s
  pub placed : m.placed ≡ s.placed + 1

-- a track has been tried, and its wires taken back
pub restored-again :
    {s m : State} (next : State) (t : ℕ) → Restored s m
    → next.taken ≡ s.taken → next.homes ≡ set m.homes s.placed t → next.placed ≡ m.placed → Restored s next
restored-again {s} {m} next t r q h d = record {
  entered = r.entered;
  long = ap length h ∙ length-set m.homes s.placed t ∙ r.long;
  marks = q;
  homes = ap (take s.placed) h ∙ take-set-le s.placed m.homes s.placed t (omega arith) ∙ r.homes;
  placed = d ∙ r.placed;
}

-- ---- run_of: what follows a run, by how it ended

module _ {T A : Type 0} (read : T → A) (budget : ℕ) (g : ℕ → Run A) where
  pub after-exhausted : (r : Ended T) (u : ℕ) → r ≡ Exhausted u → and_then (run_of read budget r) g ≡ g (budget - u)
  unfolding run_of and_then
  after-exhausted r u e = rw e

  -- nothing follows a run that found something, and none that was spent
  pub after-end : (r : Ended T) → ((u : ℕ) → r ≡ Exhausted u → ⊥) → and_then (run_of read budget r) g ≡ run_of read budget r
  unfolding run_of and_then
  after-end (Found u x) h = refl
  after-end (Exhausted u) h = absurd (h u refl)
  after-end Spent h = refl

pub exhausted-within : {T : Type 0} (budget u : ℕ) (r : Ended T) → r ≡ Exhausted u → InBudget budget r → u ≤ budget
exhausted-within budget u r q h = rw q at h

-- ---- the falling number: the remaining net-track pairs

pub pairs-fall : (n k j w t : ℕ) → j ≡ k + 1 → k < n → t < w → (n - j) * w + 1 ≤ (n - k) * w
pairs-fall n k j w t d h l =
    let e : n - k ≡ suc (n - j) = omega arith in
    rw e (omega (arith, suc-mul (n - j) w))
