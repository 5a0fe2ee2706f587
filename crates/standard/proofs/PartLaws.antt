-- A part of an output that is written from its front to its end. Assumes nothing.
-- part_length: of the n bytes that stand at a place. front-written: its first bytes are written.
use mathlib.Core.Path.{◌≡◌, sym, ap, ◌∙◌}
use Prim.Native.Nat.{ℕ, ◌+◌, ◌-◌, ◌≤◌}
use native.Mathlib.Omega.{arith}
use mathlib.Core.List.{List, ◌++◌}
use lib.ListN.{length, take, drop, length-drop}
use lib.Seq.{length-take-le}
use Rattle.routing.specs.Outcomes.{overwrite}

pub part_length : (l : List ℕ) (at n : ℕ) → at + n ≤ length l → length (take (at + n - at) (drop at l)) ≡ n
part_length l at n h =
    let e : at + n - at ≡ n = omega arith in
    ap (λ (m : ℕ). length (take m (drop at l))) e ∙ length-take-le n (drop at l) (omega (arith, length-drop at l))

pub front-written : (b l : List ℕ) (n : ℕ) → length b ≡ n → b ++ drop n l ≡ overwrite b l
unfolding overwrite
front-written b l n e = ap (λ (m : ℕ). b ++ drop m l) (sym e)
