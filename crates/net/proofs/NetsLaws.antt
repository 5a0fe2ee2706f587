-- Laws of lists of nets (specs/Nets.antt). Assumes nothing.
-- in_place, place_in, apart-at: a net by its place. entry_count: of two lists, one net more, all nets.
use mathlib.Core.Path.{◌≡◌, refl, sym, ap, ◌∙◌}
use mathlib.Core.Logic.{inl, inr, ◌≢◌}
use Prim.Native.Nat.{ℕ, zero, suc, ◌<◌, ◌+◌}
use native.Mathlib.Omega.{arith}
use mathlib.Core.List.{List, [], ◌∷◌, ◌++◌}
use lib.ListN.{length, get_or, take}
use native.Mathlib.Numerals.{add-one}
use lib.Seq.{take-length, take-suc}
use Rattle.net.specs.Net.{Net, size}
use Rattle.net.specs.Nets.{net_in, In, entry_count}
use Rattle.net.specs.Facts.{Apart}

pub in_place : (ns : List Net) (n : Net) → In n ns → (i : ℕ) × (i < length ns) × (net_in ns i ≡ n)
in_place [] n h = absurd h
in_place (m ∷ ms) n (inl e) = (0, omega arith, sym e)
in_place (m ∷ ms) n (inr h) = let r = in_place ms n h in (suc r.0, omega arith, r.2)

pub place_in : (ns : List Net) (i : ℕ) → i < length ns → In (net_in ns i) ns
place_in [] i h = absurd (omega arith)
place_in (n ∷ ns) zero h = inl refl
place_in (n ∷ ns) (suc i) h = inr (place_in ns i (omega arith))

pub apart-at : (ns : List Net) → Apart ns → (i j : ℕ) → j < i → i < length ns → (net_in ns i).number ≢ (net_in ns j).number
apart-at [] a i j l h e = omega arith
apart-at (n ∷ ns) a zero j l h e = omega arith
apart-at (n ∷ ns) a (suc i) zero l h e = a.0 (net_in ns i) (place_in ns i (omega arith)) (sym e)
apart-at (n ∷ ns) a (suc i) (suc j) l h e = apart-at ns a.1 i j (omega arith) (omega arith) e

-- ---- entry_count

pub entry_count-append : (ms ns : List Net) → entry_count (ms ++ ns) ≡ entry_count ms + entry_count ns
unfolding entry_count
entry_count-append [] ns = omega arith
entry_count-append (m ∷ ms) ns = let e = entry_count-append ms ns in omega arith

pub entry_count-more : (ns : List Net) (k : ℕ) (d : Net) → k < length ns → entry_count (take (k + 1) ns) ≡ entry_count (take k ns) + size (get_or ns k d)
unfolding entry_count
entry_count-more ns k d h =
    ap (λ (j : ℕ). entry_count (take j ns)) (add-one k)
    ∙ ap entry_count (take-suc ns k d h)
    ∙ omega (arith, entry_count-append (take k ns) (get_or ns k d ∷ []))

pub entry_count-all : (ns : List Net) → entry_count (take (length ns) ns) ≡ entry_count ns
entry_count-all ns = ap entry_count (take-length ns)
