-- The least number of a range that passes a test, as a chain of `filter` and `min_by_key` finds it. Assumes nothing.
-- passing-in, passing-at: the numbers of a range that pass. run-items: what a whole run gives. least-passing: what `min_by_key` gives.
use mathlib.Core.Path.{◌≡◌, refl, sym, ap, subst, ◌∙◌}
use mathlib.Core.Bool.{Bool, true, false, cond, true≢false}
use mathlib.Core.List.{List, ◌∷◌}
use Prim.Native.Nat.{ℕ, zero, suc, ◌+◌, ◌≤◌, ◌<◌}
use native.Mathlib.Omega.{arith}
use native.Mathlib.Decide.{dec_lt}
use borrow.Author.Tests.{lt-ltb}
use lib.ListN.{length, get_or}
use Rattle.std.proofs.Common.{Option, Some, None, MatchOption, IfSome, IsSomeAnd}
use Rattle.std.specs.List.{filter, range_with_len}
use Rattle.std.specs.Ordering.{is_lt, nat_cmp}
use Rattle.std.proofs.lemmas.List.{map-id}
use Rattle.std.proofs.lemmas.Iterator.{YieldsList}
use Rattle.std.proofs.lemmas.Iterator.Consumers.{YieldsList-end}
use Rattle.std.specs.Iterator.Runs.{YieldsRun, Run, WholeRun, AnyItem, CallKeepsClosure, NoKeyBeyond}
use Rattle.std.specs.Fn.{CalledAt}
use Rattle.std.specs.Option.{option_map}
use denote.Param.Members.{Mut}
use denote.Ref.{Bor}

-- ---- filter

module _ (test : ℕ → Bool) where
  -- the numbers from a on, n of them, that pass
  abbrev passing : ℕ → ℕ → List ℕ
  passing a n = filter test (range_with_len a n)

  -- x is one of them
  abbrev Passing : ℕ → ℕ → ℕ → Type 0
  Passing n a x = (a ≤ x) × (x < a + n) × (test x ≡ true)

  passing-in : (n a j : ℕ) → j < length (passing a n) → Passing n a (get_or (passing a n) j 0)
  passing-in zero a j h = absurd (omega arith)
  passing-in (suc n) a j h = at (test a) refl (λ i l. passing-in n (a + 1) i l) j h
    where
      at : (b : Bool) → test a ≡ b → ((i : ℕ) → i < length (passing (a + 1) n) → Passing n (a + 1) (get_or (passing (a + 1) n) i 0))
          → (j : ℕ) → j < length (cond b (a ∷ passing (a + 1) n) (passing (a + 1) n))
          → Passing (suc n) a (get_or (cond b (a ∷ passing (a + 1) n) (passing (a + 1) n)) j 0)
      at true e f zero l = (omega arith, omega arith, e)
      at true e f (suc j) l = let r = f j (omega arith) in (omega arith, omega arith, r.2)
      at false e f j l = let r = f j l in (omega arith, omega arith, r.2)

  passing-at : (n a i : ℕ) → Passing n a i → (j : ℕ) × (j < length (passing a n)) × (get_or (passing a n) j 0 ≡ i)
  passing-at zero a i h = absurd (omega arith)
  passing-at (suc n) a i h = at (test a) refl (dec_lt a i) (λ o. passing-at n (a + 1) i (omega arith, omega arith, h.2))
    where
      at : (b : Bool) → test a ≡ b → Dec (a < i) → (a < i → (j : ℕ) × (j < length (passing (a + 1) n)) × (get_or (passing (a + 1) n) j 0 ≡ i)) → (j : ℕ)
          × (j < length (cond b (a ∷ passing (a + 1) n) (passing (a + 1) n)))
          × (get_or (cond b (a ∷ passing (a + 1) n) (passing (a + 1) n)) j 0 ≡ i)
      at true e (yes o) f = let r = f o in (suc r.0, omega arith, r.2)
      at true e (no o) f = (0, omega arith, omega arith)
      at false e (yes o) f = f o
      at false e (no o) f = let q : i ≡ a = omega arith in absurd (true≢false (sym h.2 ∙ ap test q ∙ e))

-- ---- min_by_key

key-le : (j k : ℕ) → is_lt (nat_cmp j k) ≡ false → k ≤ j
key-le j k e = at (dec_lt j k)
  where
    at : Dec (j < k) → k ≤ j
    at (yes l) = absurd (true≢false (rw (lt-ltb j k l) at e))
    at (no l) = omega arith

item-any : (o : Option ℕ) (v m : ℕ) → option_map (λ y. y) o ≡ Some v → IsSomeAnd o (λ x. x ≡ m) → v ≡ m
item-any None v m e a = absurd a
item-any (Some x) v m e a = cc

item-all : (o : Option ℕ) (v : ℕ) (P : ℕ → Type 0) → option_map (λ y. y) o ≡ Some v → IfSome o P → P v
item-all None v P e a = absurd (cc)
item-all (Some x) v P e a = let q : x ≡ v = cc in subst P q a

module _ {S : Type 0} {steps : S → Option ℕ → S → Type 0} {s : S} where
  -- a whole run gives the list
  run-items : {all : List ℕ} → YieldsList steps (λ x. x) s all → (p : Run steps) → p.from ≡ s → p.whole ≡ true → p.items ≡ all
  unfolding YieldsRun
  run-items {all} e p f w =
      let d = p.gave.0 in
      let z = d.2 w in
      let e' : YieldsList steps (λ x. x) p.from all = subst (λ t. YieldsList steps (λ x. x) t all) (sym f) e in
      sym (map-id p.items) ∙ (YieldsList-end e' p.items d.0 d.1 None z.0 refl z.1).0

  -- what `min_by_key` gives of the numbers below n that pass, where its closure computes the key
  pub least-passing : {F : Type 0} {g : Mut F (Bor ℕ × Unit {0}) ℕ} {f : F} (r : Option ℕ)
      → WholeRun steps s (λ p. MatchOption r (p.len ≡ 0) (λ m. AnyItem p (λ x. x ≡ m) × NoKeyBeyond p g f is_lt nat_cmp m))
      → (test : ℕ → Bool) (n : ℕ) → YieldsList steps (λ x. x) s (filter test (range_with_len 0 n))
      → (key : ℕ → ℕ) → CallKeepsClosure g f → ((x j : ℕ) → x < n → CalledAt g f x j f → j ≡ key x)
      → MatchOption r ((i : ℕ) → i < n → test i ≡ true → ⊥)
      (λ m. (m < n) × (test m ≡ true) × ((i : ℕ) → i < n → test i ≡ true → key m ≤ key i))
  least-passing None w test n e key keeps gives = λ i h t.
      let p = w.0 in
      let q = run-items e p w.1 w.2 in
      let r = passing-at test n 0 i (omega arith, omega arith, t) in
      absurd (omega (arith, w.3, p.long, ap length q, r.1))
  least-passing (Some m) w test n e key keeps gives =
      let p = w.0 in
      let q = run-items e p w.1 w.2 in
      let any = w.3.0 in
      let z : get_or (passing test 0 n) any.0 0 ≡ m =
      ap (λ (l : List ℕ). get_or l any.0 0) (sym q) ∙ item-any (p.at any.0) (get_or p.items any.0 0) m (p.reads any.0 0 any.1) any.2 in
      let i = passing-in test n 0 any.0 (omega (arith, any.1, p.long, ap length q)) in
      let below : m < n = omega (arith, i.1, z) in
      let k = w.3.1 keeps in (
        below,
        sym (ap test z) ∙ i.2,
        λ i h t.
            let r = passing-at test n 0 i (omega arith, omega arith, t) in
            let x : get_or p.items r.0 0 ≡ i = ap (λ (l : List ℕ). get_or l r.0 0) q ∙ r.2 in
            let b = item-all (p.at r.0) (get_or p.items r.0 0) _ (p.reads r.0 0 (omega (arith, r.1, p.long, ap length q))) (k.2 r.0) in
            omega (arith, key-le b.0 k.0 b.2, gives m k.0 below k.1, gives (get_or p.items r.0 0) b.0 (omega (arith, x)) b.1, ap key x),
      )
