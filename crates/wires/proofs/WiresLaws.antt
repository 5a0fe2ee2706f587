-- Laws of the wires of a net (specs/Wires.antt). Assumes nothing.
-- free_in: entry by entry, as the code looks the wires up. laid_to: its length, one entry more, what it holds, the wire of the next entry is
-- still free, the wire of the last entry taken back.
use mathlib.Core.Path.{◌≡◌, refl, sym, ap, ap₂, ◌∙◌}
use mathlib.Core.Bool.{Bool, true, false, not, ◌&&◌, ◌||◌, or_assoc, or_comm}
use mathlib.Core.List.{List}
use Prim.Native.Nat.{ℕ, zero, suc, ◌+◌, ◌-◌, ◌≤◌, ◌<◌}
use native.Mathlib.Omega.{arith}
use native.Mathlib.Nat.{sub_self}
use native.Mathlib.Numerals.{add-one}
use borrow.Author.Tests.{eqb-true, eq-eqb, not-true}
use lib.Dec.{eqb}
use lib.ListN.{length, get_or}
use Rattle.bounded.specs.Bounded.{any_below}
use Rattle.bounded.proofs.BoundedLaws.{both_true, cannot-pass, every-at, any_below-true, Passed, passed_none, passed-more, passed-all, failed-one}
use Rattle.marks.specs.Marks.{held_at, holding, releasing}
use Rattle.marks.proofs.MarksLaws.{held_at-holding, holding-length, releasing-holding}
use Rattle.wires.specs.Wires.{Tables, mapped_by, MapFits, MapTable, first, size_of, chan_of, track_of, holds, NetFits, Triable, free_in, laid_to, laid}
use Rattle.wires.proofs.TablesLaws.{EntryFits, entry-fits, entry-wire}

-- ---- free_in

-- entry i of net k finds its wire free with the home track t
abbrev wire_free : Tables → List ℕ → ℕ → ℕ → ℕ → Bool
wire_free p taken k t i = not (held_at taken (chan_of p k i) (track_of p k i t))

-- so do the entries of net k before entry e of the tables
pub record FreeTo (p : Tables) (taken : List ℕ) (k t e : ℕ) : Type 0 where
  pub from : first p k ≤ e
  pub passed : Passed (size_of p k) (wire_free p taken k t) (e - first p k)

pub free-none : {p : Tables} {taken : List ℕ} {k t : ℕ} → FreeTo p taken k t (first p k)
free-none = record { from = omega arith; passed = rw sub_self (passed_none _ _) }

pub free_all : {p : Tables} {taken : List ℕ} {k t e : ℕ} → FreeTo p taken k t e → first p (k + 1) ≤ e → true ≡ free_in p taken k t
unfolding free_in
free_all f h = passed-all _ _ _ f.passed (omega arith)

-- entry e is one of the net's
module _
    {p : Tables} {taken : List ℕ} {k t e : ℕ} (able : Triable p k t) (narrow : p.width ≤ 32)
    (f : FreeTo p taken k t e) (h : e < first p (k + 1)) where
  entry : EntryFits p k t e
  entry = entry-fits able narrow e f.from h

  -- what `is_wire_held` asks of it, and of the table of track maps
  pub entry-asked : {tracks : List ℕ} → MapTable p.width tracks
      → MapTable p.width tracks × MapFits p.width (get_or p.maps e 0) t × (e < 2048) × (get_or p.chan e 0 < 480)
  entry-asked table = (table, entry.map, omega (arith, able.net.within), entry.chan-lt)

  -- r is whether its wire is held, looked up
  module _ {r : Bool} (found : r ≡ held_at taken (get_or p.chan e 0) (mapped_by p.width (get_or p.maps e 0) t)) where
    wire-found : wire_free p taken k t (e - first p k) ≡ not r
    wire-found = ap not (sym (entry-wire (held_at taken) entry _ refl) ∙ sym found)

    pub free_more : r ≡ false → FreeTo p taken k t (e + 1)
    free_more q =
        let j : e - first p k + 1 ≡ e + 1 - first p k = omega (arith, f.from) in
        record {
          from = omega (arith, f.from);
          passed = rw j at (passed-more _ _ _ f.passed (omega (arith, f.from)) (wire-found ∙ ap not q));
        }

    pub free-not : r ≡ true → false ≡ free_in p taken k t
    unfolding free_in
    free-not q = failed-one (size_of p k) (wire_free p taken k t) _ (omega (arith, f.from)) (wire-found ∙ ap not q)

-- ---- laid_to

module _ (p : Tables) (taken : List ℕ) (k t : ℕ) where
  pub laid_to-length : (n : ℕ) → length (laid_to p taken k t n) ≡ length taken
  unfolding laid_to
  laid_to-length zero = refl
  laid_to-length (suc n) = holding-length (laid_to p taken k t n) (chan_of p k n) (track_of p k n t) ∙ laid_to-length n

  pub laid_to-none : laid_to p taken k t 0 ≡ taken
  unfolding laid_to
  laid_to-none = refl

  pub laid_to-more : (n : ℕ) → laid_to p taken k t (n + 1) ≡ holding (laid_to p taken k t n) (chan_of p k n) (track_of p k n t)
  unfolding laid_to
  laid_to-more n = rw add-one refl

  -- track x of channel c is the wire of entry i; it is a wire of the first n entries, or of the marks
  abbrev is_wire : ℕ → ℕ → ℕ → Bool
  is_wire c x i = eqb (chan_of p k i) c && eqb (track_of p k i t) x

  abbrev laid_holds : ℕ → ℕ → ℕ → Bool
  laid_holds n c x = any_below n (is_wire c x) || held_at taken c x

  module _ (fits : NetFits p k) (long : length taken ≡ 480) (is_free : free_in p taken k t ≡ true) where
    -- the channels of a net differ
    other : (n : ℕ) → n < size_of p k → any_below n (is_wire (chan_of p k n) (track_of p k n t)) ≡ false
    other n h =
        cannot-pass _
        (λ s.
        let r = any_below-true n _ s in
        let b = both_true _ _ r.2 in
        let e = fits.differ r.0 n (omega arith) h (eqb-true _ _ b.0) in
        omega arith)

    next-free : (n : ℕ) → n < size_of p k → ((c x : ℕ) → held_at (laid_to p taken k t n) c x ≡ laid_holds n c x)
        → held_at (laid_to p taken k t n) (chan_of p k n) (track_of p k n t) ≡ false
    unfolding free_in
    next-free n h rec =
        rec (chan_of p k n) (track_of p k n t)
        ∙ ap₂ ◌||◌ (other n h) (not-true _ (every-at (size_of p k) (wire_free p taken k t) is_free n h))

    -- what it holds
    pub laid_to-holds : (n : ℕ) → n ≤ size_of p k → (c x : ℕ) → held_at (laid_to p taken k t n) c x ≡ laid_holds n c x
    unfolding laid_to any_below
    laid_to-holds zero h c x = refl
    laid_to-holds (suc n) h c x =
        let rec = laid_to-holds n (omega arith) in
        held_at-holding (laid_to p taken k t n) (chan_of p k n) (track_of p k n t) c x
        (omega (arith, laid_to-length n, fits.channels n h))
        (next-free n h rec)
        ∙ ap (λ (b : Bool). is_wire c x n || b) (rec c x)
        ∙ sym (or_assoc (is_wire c x n) (any_below n (is_wire c x)) (held_at taken c x))
        ∙ ap (λ (b : Bool). b || held_at taken c x) (or_comm (is_wire c x n) (any_below n (is_wire c x)))

    -- the wire of the next entry is still free
    pub laid_to-free : (n : ℕ) → n < size_of p k → held_at (laid_to p taken k t n) (chan_of p k n) (track_of p k n t) ≡ false
    laid_to-free n h = next-free n h (laid_to-holds n (omega arith))

    -- the wire of the last entry passed is held, and taking it back leaves those of the entries before it
    pub laid_to-held : (n : ℕ) → n < size_of p k → held_at (laid_to p taken k t (n + 1)) (chan_of p k n) (track_of p k n t) ≡ true
    laid_to-held n h =
        let c = chan_of p k n in
        let x = track_of p k n t in
        ap (λ (m : List ℕ). held_at m c x) (laid_to-more n)
        ∙ held_at-holding (laid_to p taken k t n) c x c x (omega (arith, laid_to-length n, fits.channels n h)) (laid_to-free n h)
        ∙ ap₂ (λ (a b : Bool). a && b || held_at (laid_to p taken k t n) c x) (eq-eqb c c refl) (eq-eqb x x refl)

    pub laid_to-back : (n : ℕ) → n < size_of p k
        → releasing (laid_to p taken k t (n + 1)) (chan_of p k n) (track_of p k n t) ≡ laid_to p taken k t n
    laid_to-back n h =
        ap (λ (m : List ℕ). releasing m (chan_of p k n) (track_of p k n t)) (laid_to-more n)
        ∙ releasing-holding (laid_to p taken k t n) (chan_of p k n) (track_of p k n t) (omega (arith, laid_to-length n, fits.channels n h))

    pub laid-holds : (c x : ℕ) → held_at (laid p taken k t) c x ≡ (holds p k t c x || held_at taken c x)
    unfolding holds
    laid-holds c x = laid_to-holds (size_of p k) (omega arith) c x
