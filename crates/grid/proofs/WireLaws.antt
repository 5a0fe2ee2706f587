-- Laws of wires (specs/Grid.antt). Assumes nothing.
-- same_wire: a test to its fact and back, either way round.
use mathlib.Core.Path.{◌≡◌, sym, ap, ap₂}
use mathlib.Core.Bool.{true}
use Prim.Native.Nat.{ℕ}
use borrow.Author.Tests.{eqb-true, eq-eqb}
use Rattle.bounded.proofs.BoundedLaws.{both_true, true-both, same_test}
use Rattle.grid.specs.Grid.{Wire, same_wire}

pub same_wire-true : (v u : Wire) → same_wire v u ≡ true → v ≡ u
same_wire-true v u e =
    let b = both_true _ _ e in
    ap₂ (λ (c t : ℕ). record { channel = c; track = t }) (eqb-true v.channel u.channel b.0) (eqb-true v.track u.track b.1)

pub true-same_wire : (v u : Wire) → v ≡ u → same_wire v u ≡ true
true-same_wire v u e =
    true-both _ _
    (eq-eqb v.channel u.channel (ap (λ (x : Wire). x.channel) e))
    (eq-eqb v.track u.track (ap (λ (x : Wire). x.track) e))

pub same_wire-sym : (v u : Wire) → same_wire v u ≡ same_wire u v
same_wire-sym v u =
    same_test _ _ (λ e. true-same_wire u v (sym (same_wire-true v u e))) (λ e. true-same_wire v u (sym (same_wire-true u v e)))
