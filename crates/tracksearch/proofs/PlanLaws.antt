-- Laws of which tracks fit (specs/Plan.antt). Assumes nothing.
-- move_from: of a net that had no home track, at most 1. moves_from: at most the number of nets, one net more, by the first home tracks. held_by_nets: one net more.
-- held_by: one net more.
use mathlib.Core.Path.{◌≡◌, refl, sym, ap, ap₂, ◌∙◌}
use mathlib.Core.Bool.{Bool, true, false, not, ◌&&◌, ◌||◌, or_assoc}
use mathlib.Core.List.{List, [], ◌∷◌, ◌++◌}
use Prim.Native.Nat.{ℕ, zero, suc, ◌+◌, ◌≤◌}
use native.Mathlib.Omega.{arith}
use native.Mathlib.Numerals.{add-one}
use borrow.Author.Tests.{eq-eqb}
use lib.Dec.{eqb}
use lib.ListN.{length, get_or, length-append, get_or-append}
use lib.Seq.{get_or-append_seam, get_or_at}
use Rattle.bounded.specs.Bounded.{any_below}
use Rattle.bounded.proofs.BoundedLaws.{any_below-same}
use Rattle.marks.specs.Marks.{held_at}
use Rattle.wires.specs.Wires.{Tables, holds}
use Rattle.tracksearch.specs.Plan.{SearchTables, move_from, moves_from, held_by_nets, held_by}

-- ---- move_from

module _ (old : List ℕ) (k t : ℕ) where
  pub move_from-new : get_or old k 0 ≡ 255 → move_from old k t ≡ 0
  unfolding move_from
  move_from-new e = rw (eq-eqb (get_or old k 0) 255 e, move_from)

  pub move_from-le : move_from old k t ≤ 1
  unfolding move_from
  move_from-le = at (not (eqb (get_or old k 0) 255) && not (eqb (get_or old k 0) t))
    where
      at : (b : Bool) → elim b as (λ _. ℕ) [ true ↦ 1 | false ↦ 0 ] ≤ 1
      at true = omega arith
      at false = omega arith

-- ---- moves_from

module _ (old hs : List ℕ) where
  pub moves_from-le : (k : ℕ) → moves_from old hs k ≤ k
  unfolding moves_from
  moves_from-le zero = omega arith
  moves_from-le (suc k) = let r = moves_from-le k in omega (arith, move_from-le old k (get_or hs k 0))

  -- by the first home tracks
  moves_from-append : (l : List ℕ) (k : ℕ) → k ≤ length hs → moves_from old (hs ++ l) k ≡ moves_from old hs k
  unfolding moves_from
  moves_from-append l zero h = refl
  moves_from-append l (suc k) h = ap₂ ◌+◌ (moves_from-append l k (omega arith)) (ap (move_from old k) (get_or-append hs l 0 k h))

  -- one net more
  pub moves_from-more : (t k : ℕ) → k ≡ length hs → moves_from old (hs ++ (t ∷ [])) (k + 1) ≡ moves_from old hs k + move_from old k t
  unfolding moves_from
  moves_from-more t k e =
      rw add-one (ap₂ ◌+◌ (moves_from-append (t ∷ []) k (omega arith)) (ap (move_from old k) (get_or_at hs t [] 0 k (sym e))))

-- ---- held_by_nets

-- one net more
held_by_nets-more : (nets : Tables) (hs : List ℕ) (t c x : ℕ)
    → held_by_nets nets (hs ++ (t ∷ [])) c x ≡ (held_by_nets nets hs c x || holds nets (length hs) t c x)
unfolding held_by_nets any_below
held_by_nets-more nets hs t c x =
    ap (λ (n : ℕ). any_below n (λ k. holds nets k (get_or (hs ++ (t ∷ [])) k 0) c x)) (length-append hs (t ∷ []) ∙ add-one (length hs))
    ∙ ap₂ ◌||◌
    (any_below-same (length hs) _ _ (λ k h. ap (λ (u : ℕ). holds nets k u c x) (get_or-append hs (t ∷ []) 0 k h)))
    (ap (λ (u : ℕ). holds nets (length hs) u c x) (get_or-append_seam hs t [] 0))

-- ---- held_by

-- one net more
pub held_by-more : (p : SearchTables) (hs : List ℕ) (t c x : ℕ)
    → held_by p (hs ++ (t ∷ [])) c x ≡ (held_by p hs c x || holds p.nets (length hs) t c x)
unfolding held_by
held_by-more p hs t c x =
    ap (λ (b : Bool). held_at p.marks c x || b) (held_by_nets-more p.nets hs t c x)
    ∙ sym (or_assoc (held_at p.marks c x) (held_by_nets p.nets hs c x) (holds p.nets (length hs) t c x))
