-- That a record is whole is a fact with at most one proof: a net number has 2 or 4 bytes, and not both. Assumes nothing.
use Rattle.std.specs.Prelude.{◌≡◌, ◌⊎◌, ℕ, List}
use Rattle.std.proofs.Common.{ap, inl, inr, arith}
use Rattle.std.specs.Coded.{Coded-set, coded_ℕ, le_prop}
use Rattle.net.specs.Facts.{WholeRecord}

either_prop : (z : ℕ) → IsProp ((z ≡ 2) ⊎ (z ≡ 4))
either_prop z (inl p) (inl q) = ap inl (Coded-set coded_ℕ z 2 p q)
either_prop z (inr p) (inr q) = ap inr (Coded-set coded_ℕ z 4 p q)
either_prop z (inl p) (inr q) = absurd (omega arith)
either_prop z (inr p) (inl q) = absurd (omega arith)

pub whole_prop : (z : ℕ) (r : List ℕ) → IsProp (WholeRecord z r)
whole_prop z r = Prim.hlevel (either_prop z, le_prop, Coded-set coded_ℕ)
