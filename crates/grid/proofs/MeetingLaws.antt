-- Laws of the box where two channels meet, and of their sides (specs/Grid.antt; 02, M-104). Assumes nothing.
-- ends: one at a box. meeting: the one box where both channels have an end, and their sides there; the same from the other end.
use mathlib.Core.Path.{◌≡◌, sym, subst, ap, ap₂, ◌∙◌}
use mathlib.Core.Logic.{inl, inr}
use mathlib.Core.Bool.{true, true≢false}
use Prim.Native.Nat.{ℕ, ◌<◌}
use native.Mathlib.Omega.{arith}
use Rattle.grid.specs.declared.Grid.{Grid}
use Rattle.grid.specs.declared.End.{End}
use Rattle.grid.specs.Grid.{Meeting, meeting_at, meeting, meet, At}
use Rattle.grid.specs.Facts.{Sized, HasEnd}
use Rattle.grid.proofs.GridLaws.{first_end-side-lt, second_end-side-lt, ends-lt, end-at, MeetingCase, together, separate, meeting_case, meet-once}

-- ---- ends

-- a channel has one end at a box
ends_at : {g : Grid} → Sized g → (n : ℕ) (p q : End) → HasEnd g n p → HasEnd g n q → p.at ≡ q.at → p ≡ q
ends_at z n p q (inl i) (inl j) e = sym i ∙ j
ends_at z n p q (inr i) (inr j) e = sym i ∙ j
ends_at z n p q (inl i) (inr j) e = absurd (omega (arith, ends-lt z n, ap (λ (k : End). k.at) i, ap (λ (k : End). k.at) j))
ends_at z n p q (inr i) (inl j) e = absurd (omega (arith, ends-lt z n, ap (λ (k : End). k.at) i, ap (λ (k : End). k.at) j))

end-side-lt : (g : Grid) (n : ℕ) (p : End) → HasEnd g n p → p.side < 4
end-side-lt g n p (inl i) = subst (λ (e : End). e.side < 4) i (first_end-side-lt g n)
end-side-lt g n p (inr i) = subst (λ (e : End). e.side < 4) i (second_end-side-lt g n)

-- ---- meeting

-- channels on the sides s and t of one box meet there
pub meeting-at :
    {g : Grid} → Sized g → (c d x s t : ℕ) → (c ≡ d → ⊥) → HasEnd g c (record { at = x; side = s }) → HasEnd g d (record { at = x; side = t })
    → meeting g c d ≡ record { met = true; at = x; from = s; to = t }
meeting-at {g} z c d x s t h i j = by (meeting_case g c d)
  where
    by : MeetingCase g c d → meeting g c d ≡ record { met = true; at = x; from = s; to = t }
    by (together p q n k l e m) =
        let o : p.at ≡ x = meet-once z c d p.at x h (end-at g c p k) (rw (sym e) at (end-at g d q l)) (end-at g c _ i) (end-at g d _ j) in
        m ∙ ap₂ meeting_at (ends_at z c p _ k i o) (ends_at z d q _ l j (sym e ∙ o))
    by (separate m n) = absurd (n x h (end-at g c _ i) (end-at g d _ j))

-- a box where both have an end is the box of their meeting
pub meeting-box : {g : Grid} → Sized g → (c d x : ℕ) → (c ≡ d → ⊥) → At g c x → At g d x → (meeting g c d).at ≡ x
meeting-box {g} z c d x h i j = by (meeting_case g c d)
  where
    by : MeetingCase g c d → (meeting g c d).at ≡ x
    by (together p q n k l e m) =
        ap (λ (y : Meeting). y.at) m ∙ meet-once z c d p.at x h (end-at g c p k) (rw (sym e) at (end-at g d q l)) i j
    by (separate m n) = absurd (n x h i j)

module _ {g : Grid} (z : Sized g) (c d : ℕ) (met : meet g c d ≡ true) where
  -- the sides of channels that meet
  pub meeting-sides-lt : ((meeting g c d).from < 4) × ((meeting g c d).to < 4)
  meeting-sides-lt = by (meeting_case g c d)
    where
      by : MeetingCase g c d → ((meeting g c d).from < 4) × ((meeting g c d).to < 4)
      by (together p q h i j e m) =
          subst (λ (x : Meeting). (x.from < 4) × (x.to < 4)) (sym m) (end-side-lt g c p i, end-side-lt g d q j)
      by (separate m n) = absurd (true≢false (sym met ∙ ap (λ (x : Meeting). x.met) m))

  -- the same box from the other end, and the sides exchanged
  pub meeting-sym : meeting g d c ≡ record { met = true; at = (meeting g c d).at; from = (meeting g c d).to; to = (meeting g c d).from }
  meeting-sym = by (meeting_case g c d)
    where
      by : MeetingCase g c d → meeting g d c ≡ record { met = true; at = (meeting g c d).at; from = (meeting g c d).to; to = (meeting g c d).from }
      by (together p q h i j e m) =
          meeting-at z d c p.at q.side p.side (λ x. h (sym x)) (rw (sym e) at j) i
          ∙ ap (λ (x : Meeting). record { met = true; at = x.at; from = x.to; to = x.from }) (sym m)
      by (separate m n) = absurd (true≢false (sym met ∙ ap (λ (x : Meeting). x.met) m))
