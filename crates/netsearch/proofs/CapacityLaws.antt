-- A channel with more nets than whole tracks is over capacity, and has no legal tracks. Assumes nothing.
use mathlib.Core.Path.{◌≡◌, refl, sym, ap, ◌∙◌}
use mathlib.Core.Logic.{inl, inr}
use Prim.Native.Nat.{ℕ, zero, suc, ◌+◌, ◌≤◌, ◌<◌}
use native.Mathlib.Omega.{arith}
use mathlib.Core.List.{List, [], ◌∷◌}
use mathlib.Core.Bool.{Bool, true, false, not, ◌&&◌, true≢false}
use lib.Dec.{eqb}
use borrow.Author.Tests.{eqb-true, eqb-false, not-true, ltb-true, lt-ltb}
use Rattle.bounded.specs.Bounded.{count_below}
use Rattle.bounded.proofs.BoundedLaws.{both_true, any_below-true, true-any_below}
use Rattle.grid.specs.Grid.{wire}
use Rattle.net.specs.Net.{Net, has}
use Rattle.net.specs.Nets.{In}
use Rattle.net.specs.Facts.{Apart}
use Rattle.rank.specs.Rank.{one_if, tally}
use Rattle.rank.proofs.TallyLaws.{tally-none}
use Rattle.assignment.specs.Board.{Board}
use Rattle.netsearch.specs.PlainSearch.{density, whole_tracks, over_capacity}
use Rattle.netsearch.specs.Facts.{LegalTracks}

-- one number passes, so one net does
tally-one : (f : Net → Bool) (ns : List Net) → Apart ns → ((n m : Net) → In n ns → In m ns → f n ≡ true → f m ≡ true → n.number ≡ m.number) → tally f ns ≤ 1
unfolding tally
tally-one f [] a h = omega arith
tally-one f (n ∷ ns) a h = at (f n) refl (tally-one f ns a.1 (λ x y i j. h x y (inr i) (inr j)))
  where
    at : (b : Bool) → f n ≡ b → tally f ns ≤ 1 → one_if b + tally f ns ≤ 1
    at true e r = omega (arith, tally-none f ns (λ m i q. a.0 m i (h n m (inl refl) (inr i) e q)))
    at false e r = omega arith

tally-split : (f g : Net → Bool) (ns : List Net) → tally f ns ≡ tally (λ n. f n && g n) ns + tally (λ n. f n && not (g n)) ns
unfolding tally
tally-split f g [] = refl
tally-split f g (n ∷ ns) = at (f n) (g n) (tally-split f g ns)
  where
    at : (a b : Bool) → tally f ns ≡ tally (λ n. f n && g n) ns + tally (λ n. f n && not (g n)) ns
        → one_if a + tally f ns ≡ one_if (a && b) + tally (λ n. f n && g n) ns + (one_if (a && not b) + tally (λ n. f n && not (g n)) ns)
    at true true e = omega arith
    at true false e = omega arith
    at false b e = omega arith

-- the nets that pass have different values below w, each of them a good one
tally-below : (w : ℕ) (good : ℕ → Bool) (val : Net → ℕ) (f : Net → Bool) (ns : List Net) → Apart ns
    → ((n : Net) → In n ns → f n ≡ true → (val n < w) × (good (val n) ≡ true))
    → ((n m : Net) → In n ns → In m ns → f n ≡ true → f m ≡ true → val n ≡ val m → n.number ≡ m.number) → tally f ns ≤ count_below w good
unfolding count_below
tally-below zero good val f ns a l d = omega (arith, tally-none f ns (λ n i q. omega (arith, (l n i q).0)))
tally-below (suc w) good val f ns a l d =
    omega (
      arith,
      tally-split f (λ n. eqb (val n) w) ns,
      last (good w) refl,
      tally-below w good val (λ n. f n && not (eqb (val n) w)) ns a
          (λ n i p.
          let x = both_true (f n) (not (eqb (val n) w)) p in
          let ne = eqb-false (val n) w (not-true _ x.1) in
          let h = l n i x.0 in
          (omega (arith, h.0), h.1))
          (λ n m i j p q. d n m i j (both_true (f n) (not (eqb (val n) w)) p).0 (both_true (f m) (not (eqb (val m) w)) q).0),
    )
  where
    -- those with the value w: one if it is a good one, else none
    last : (b : Bool) → good w ≡ b → tally (λ n. f n && eqb (val n) w) ns ≤ elim (good w) [ true ↦ 1 | false ↦ 0 ]
    last true e =
        omega (
          arith,
          ap {B = ℕ} (λ (b : Bool). elim b [ true ↦ 1 | false ↦ 0 ]) e,
          tally-one (λ n. f n && eqb (val n) w) ns a (λ n m i j p q.
              let x = both_true (f n) (eqb (val n) w) p in
              let y = both_true (f m) (eqb (val m) w) q in
              d n m i j x.0 y.0 (eqb-true _ _ x.1 ∙ sym (eqb-true _ _ y.1))),
        )
    last false e =
        omega (
          arith,
          tally-none (λ n. f n && eqb (val n) w) ns (λ n i p.
              let x = both_true (f n) (eqb (val n) w) p in
              true≢false (sym (l n i x.0).1 ∙ ap good (eqb-true _ _ x.1) ∙ e)),
        )

-- a channel with more nets than whole tracks is over capacity
pub over-true : (board : Board) (w : ℕ) (ns : List Net) (c : ℕ) → c < board.channels → whole_tracks board w c < density ns c
    → over_capacity board w ns ≡ true
unfolding over_capacity
over-true board w ns c l q = true-any_below board.channels _ c l (lt-ltb _ _ q)

module _ (board : Board) (w : ℕ) (ns : List Net) (a : Apart ns) (τ : ℕ → ℕ → ℕ) (R : LegalTracks board w ns τ) where
  legal-load : (c : ℕ) → density ns c ≤ whole_tracks board w c
  unfolding density whole_tracks
  legal-load c =
      tally-below w (λ t. not (board.broken (wire c t))) (λ n. τ n.number c) (λ n. has n c) ns a
      (λ n i h. (R.below n c i h, ap not (R.whole n c i h)))
      (λ n m i j h k e. R.alone n m c i j h k e)

  pub legal-over_capacity : over_capacity board w ns ≡ true → ⊥
  unfolding over_capacity
  legal-over_capacity h =
      let r = any_below-true board.channels _ h in omega (arith, legal-load r.0, ltb-true (whole_tracks board w r.0) (density ns r.0) r.2)
