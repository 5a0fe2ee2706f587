-- Laws of the marks of a net's entries while its canonical tree is written (specs/Growth.antt). Assumes nothing.
-- parent_among: where a channel has a joint to a written one, and where not. MarkCase: what the mark of an entry says of it; mark-follows,
-- follows-mark: an entry with a place for its mark may follow. Marked: of none, of one more. MarkedTo: the marks while one more is written.
use mathlib.Core.Path.{◌≡◌, refl, sym, subst, ap, ◌∙◌}
use mathlib.Core.Logic.{◌⊎◌, inl, inr}
use Prim.Native.Nat.{ℕ, zero, suc, ◌+◌, ◌≤◌, ◌<◌}
use native.Mathlib.Omega.{arith}
use native.Mathlib.Decide.{dec_lt}
use mathlib.Core.List.{List, [], ◌∷◌, ◌++◌}
use mathlib.Core.Bool.{Bool, true, false, not, ◌||◌, true≢false}
use lib.ListN.{length, get_or, set, replicate, length-set, length-replicate, get_or-replicate}
use lib.Seq.{get_or-set_same, get_or-set_other}
use borrow.Author.Tests.{not-true}
use Rattle.bounded.specs.Lists.{memb, any_in, first_in}
use Rattle.bounded.proofs.BoundedLaws.{left-true, right-true, both_true, true-both, same_test}
use Rattle.bounded.proofs.ListsLaws.{any_in-append, first_in-append-left, first_in-append-right, first_in-passes}
use Rattle.net.specs.Net.{Net, max_entries, size, channel, parent, has, edge, no_parent}
use Rattle.canonical.specs.Canonical.{may_follow, parent_among}
use Rattle.canonical.proofs.WrittenLaws.{memb-more, memb-kept, memb-last, written_none, written-more, written-length, may_follow-later}
use Rattle.canonical.proofs.TreeLaws.{Joined, edge-joined, joined-edge}
use Rattle.standard.specs.Growth.{written_mark, entry_mark, Marked, any_meet, IsTree, NextEntry}
use Rattle.canonical.specs.Facts.{written_of}

-- ---- parent_among

module _ (joins : ℕ → ℕ → Bool) (ws : List ℕ) (c : ℕ) where
  parent_among-in : any_in (joins c) ws ≡ true → parent_among joins ws c ≡ first_in (joins c) ws
  unfolding parent_among
  parent_among-in e = ap {B = ℕ} (λ (b : Bool). elim b [ true ↦ first_in (joins c) ws | false ↦ no_parent ]) e

  parent_among-out : any_in (joins c) ws ≡ false → parent_among joins ws c ≡ no_parent
  unfolding parent_among
  parent_among-out e = ap {B = ℕ} (λ (b : Bool). elim b [ true ↦ first_in (joins c) ws | false ↦ no_parent ]) e

-- ---- entry_mark

module _ (n : Net) (ws : List ℕ) (i : ℕ) where
  entry_mark-written : memb (channel n i) ws ≡ true → entry_mark n ws i ≡ written_mark
  unfolding entry_mark
  entry_mark-written e = ap {B = ℕ} (λ (b : Bool). elim b [ true ↦ written_mark | false ↦ parent_among (edge n) ws (channel n i) ]) e

  pub entry_mark-left : memb (channel n i) ws ≡ false → entry_mark n ws i ≡ parent_among (edge n) ws (channel n i)
  unfolding entry_mark
  entry_mark-left e = ap {B = ℕ} (λ (b : Bool). elim b [ true ↦ written_mark | false ↦ parent_among (edge n) ws (channel n i) ]) e

-- the entry is written; or has a joint to a written one; or neither
data MarkCase (n : Net) (ws : List ℕ) (i : ℕ) : Type 0 where
  done : memb (channel n i) ws ≡ true → entry_mark n ws i ≡ written_mark → MarkCase n ws i
  near : memb (channel n i) ws ≡ false → any_in (edge n (channel n i)) ws ≡ true → entry_mark n ws i ≡ first_in (edge n (channel n i)) ws
      → first_in (edge n (channel n i)) ws < length ws → MarkCase n ws i
  far : memb (channel n i) ws ≡ false → any_in (edge n (channel n i)) ws ≡ false → entry_mark n ws i ≡ no_parent → MarkCase n ws i

mark_case : (n : Net) (ws : List ℕ) (i : ℕ) → MarkCase n ws i
mark_case n ws i = at (memb (channel n i) ws) refl (any_in (edge n (channel n i)) ws) refl
  where
    at : (b : Bool) → memb (channel n i) ws ≡ b → (a : Bool) → any_in (edge n (channel n i)) ws ≡ a → MarkCase n ws i
    at true e a f = done e (entry_mark-written n ws i e)
    at false e true f =
        near e f (entry_mark-left n ws i e ∙ parent_among-in (edge n) ws (channel n i) f) (first_in-passes (edge n (channel n i)) 0 ws f).0
    at false e false f = far e f (entry_mark-left n ws i e ∙ parent_among-out (edge n) ws (channel n i) f)

entry_mark-none : (n : Net) (i : ℕ) → entry_mark n [] i ≡ no_parent
unfolding memb any_in
entry_mark-none n i = entry_mark-left n [] i refl ∙ parent_among-out (edge n) [] (channel n i) refl

module _ (n : Net) (ws : List ℕ) (short : length ws ≤ max_entries) (i : ℕ) where
  pub entry_mark-le : entry_mark n ws i ≤ no_parent
  entry_mark-le = at (mark_case n ws i)
    where
      at : MarkCase n ws i → entry_mark n ws i ≤ no_parent
      at (done e m) = omega arith
      at (near e a m l) = omega arith
      at (far e a m) = omega arith

  -- behind the first, an entry may follow exactly if its mark is a place
  pub mark-follows : 0 < length ws → entry_mark n ws i < max_entries → may_follow (has n) (edge n) ws (channel n i) ≡ true
  mark-follows z h = at (mark_case n ws i)
    where
      at : MarkCase n ws i → may_follow (has n) (edge n) ws (channel n i) ≡ true
      at (done e m) = absurd (omega arith)
      at (near e a m l) = may_follow-later (has n) (edge n) ws (channel n i) z ∙ true-both _ _ (ap not e) a
      at (far e a m) = absurd (omega arith)

  pub follows-mark : 0 < length ws → may_follow (has n) (edge n) ws (channel n i) ≡ true → entry_mark n ws i < max_entries
  follows-mark z h =
      at (both_true (not (memb (channel n i) ws)) (any_in (edge n (channel n i)) ws) (sym (may_follow-later (has n) (edge n) ws (channel n i) z) ∙ h))
      (mark_case n ws i)
    where
      at : (not (memb (channel n i) ws) ≡ true) × (any_in (edge n (channel n i)) ws ≡ true) → MarkCase n ws i → entry_mark n ws i < max_entries
      at b (done e m) = absurd (true≢false (sym e ∙ not-true _ b.0))
      at b (near e a m l) = omega arith
      at b (far e a m) = absurd (true≢false (sym b.1 ∙ a))

-- ---- one entry more is written

module _ (n : Net) (T : IsTree n) (ws : List ℕ) (short : length ws ≤ max_entries) (j : ℕ) (l : j < size n) where
  -- with entry j
  abbrev grown_by : List ℕ
  grown_by = ws ++ (channel n j ∷ [])

  mark-own : entry_mark n grown_by j ≡ written_mark
  mark-own = entry_mark-written n grown_by j (memb-last ws (channel n j))

  module _ (i : ℕ) (h : i < size n) (d : i ≡ j → ⊥) where
    memb-other : memb (channel n i) grown_by ≡ memb (channel n i) ws
    memb-other = same_test _ _ (λ m. at (memb-more (channel n i) ws (channel n j) m)) (memb-kept (channel n i) ws (channel n j))
      where
        at : (memb (channel n i) ws ≡ true) ⊎ (channel n i ≡ channel n j) → memb (channel n i) ws ≡ true
        at (inl m) = m
        at (inr e) = absurd (d (T.accepted.once i j h l e))

    mark-kept : (entry_mark n ws i ≡ no_parent → ⊥) → entry_mark n grown_by i ≡ entry_mark n ws i
    mark-kept f = at (mark_case n ws i)
      where
        at : MarkCase n ws i → entry_mark n grown_by i ≡ entry_mark n ws i
        at (done e m) = entry_mark-written n grown_by i (memb-other ∙ e) ∙ sym m
        at (near e a m o) =
            let c = channel n i in
            entry_mark-left n grown_by i (memb-other ∙ e)
            ∙ parent_among-in (edge n) grown_by c (any_in-append (edge n c) ws _ ∙ left-true _ _ a)
            ∙ first_in-append-left (edge n c) ws _ a
            ∙ sym m
        at (far e a m) = absurd (f m)

    -- the entry had no joint to a written one
    module _ (q : entry_mark n ws i ≡ no_parent) where
      apart : (memb (channel n i) ws ≡ false) × (any_in (edge n (channel n i)) ws ≡ false)
      apart = at (mark_case n ws i)
        where
          at : MarkCase n ws i → (memb (channel n i) ws ≡ false) × (any_in (edge n (channel n i)) ws ≡ false)
          at (done e m) = absurd (omega arith)
          at (near e a m o) = absurd (omega arith)
          at (far e a m) = (e, a)

      mark-new : Joined any_meet n T.accepted i j → entry_mark n grown_by i ≡ length ws
      unfolding any_in first_in
      mark-new p =
          let c = channel n i in
          let e : edge n c (channel n j) ≡ true = joined-edge any_meet n T.accepted i j h l p in
          entry_mark-left n grown_by i (memb-other ∙ apart.0)
          ∙ parent_among-in (edge n) grown_by c (any_in-append (edge n c) ws _ ∙ right-true (any_in (edge n c) ws) _ (left-true _ _ e))
          ∙ first_in-append-right (edge n c) ws _ apart.1
          ∙ omega (arith, ap {B = ℕ} (λ (b : Bool). elim b [ true ↦ 0 | false ↦ suc 0 ]) e)

      mark-none : (Joined any_meet n T.accepted i j → ⊥) → entry_mark n grown_by i ≡ no_parent
      unfolding any_in
      mark-none p =
          let c = channel n i in
          entry_mark-left n grown_by i (memb-other ∙ apart.0)
          ∙ parent_among-out (edge n) grown_by c (any_in-append (edge n c) ws _ ∙ neither (any_in (edge n c) ws) (edge n c (channel n j)) apart.1 refl)
        where
          neither : (a b : Bool) → a ≡ false → edge n (channel n i) (channel n j) ≡ b → (a || (b || false)) ≡ false
          neither true b f e = f
          neither false true f e = absurd (p (edge-joined any_meet n T.accepted i j h l e))
          neither false false f e = refl

-- what the code tests: an entry's parent, in either order
module _ (n : Net) (T : IsTree n) (few : size n ≤ max_entries) (i j : ℕ) (h : i < size n) (l : j < size n) where
  -- the first entry's parent is none of the entries
  late : (k m : ℕ) → k < size n → parent n m ≡ k → 0 < m
  late k zero o e = absurd (omega (arith, T.first))
  late k (suc m) o e = omega arith

  code-joined : (i ≡ parent n j) ⊎ (parent n i ≡ j) → Joined any_meet n T.accepted i j
  code-joined (inl e) = inl (late i j h (sym e), sym e)
  code-joined (inr e) = inr (late j i l e, e)

  joined-code : Joined any_meet n T.accepted i j → (i ≡ parent n j) ⊎ (parent n i ≡ j)
  joined-code (inl e) = inl (sym e.1)
  joined-code (inr e) = inr e.1

-- ---- Marked

-- the marks where none is written
pub marked-none : (n : Net) → size n ≤ max_entries → Marked n (written_of n 0) (replicate max_entries no_parent)
marked-none n few = record {
  whole = length-replicate {A = ℕ} max_entries no_parent;
  each = λ i h.
      get_or-replicate {A = ℕ} max_entries i no_parent 0 (omega arith)
      ∙ sym (ap (λ (ws : List ℕ). entry_mark n ws i) (written_none (has n) (edge n)) ∙ entry_mark-none n i);
}

-- the marks where one entry more is written
pub marked_next : (n : Net) (k j : ℕ) (marks : List ℕ) → NextEntry n k j → Marked n (written_of n k ++ (channel n j ∷ [])) marks → Marked n (written_of n (k + 1)) marks
marked_next n k j marks N =
    subst (λ (ws : List ℕ). Marked n ws marks) (ap (λ (c : ℕ). written_of n k ++ (c ∷ [])) N.next ∙ sym (written-more (has n) (edge n) k))

-- ---- MarkedTo

-- the marks of the entries before i are those with entry j written, the others those without
pub record MarkedTo (n : Net) (ws : List ℕ) (j i : ℕ) (marks : List ℕ) : Type 0 where
  pub whole : length marks ≡ max_entries
  pub before : (m : ℕ) → m < i → m < size n → get_or marks m 0 ≡ entry_mark n (ws ++ (channel n j ∷ [])) m
  pub behind : (m : ℕ) → i ≤ m → m < size n → get_or marks m 0 ≡ entry_mark n ws m

module _ (n : Net) (ws : List ℕ) (j : ℕ) where
  pub marked_to-none : (marks : List ℕ) → Marked n ws marks → MarkedTo n ws j 0 marks
  marked_to-none marks M = record { whole = M.whole; before = λ m l. absurd (omega arith); behind = λ m l h. M.each m h }

  marked_to-keep : (i : ℕ) (marks : List ℕ) → MarkedTo n ws j i marks → entry_mark n (ws ++ (channel n j ∷ [])) i ≡ entry_mark n ws i
      → MarkedTo n ws j (i + 1) marks
  marked_to-keep i marks M e = record { whole = M.whole; before = λ m l h. at m l h (dec_lt m i); behind = λ m l h. M.behind m (omega arith) h }
    where
      at : (m : ℕ) → m < i + 1 → m < size n → Dec (m < i) → get_or marks m 0 ≡ entry_mark n (ws ++ (channel n j ∷ [])) m
      at m l h (yes o) = M.before m o h
      at m l h (no o) =
          let q : m ≡ i = omega arith in
          M.behind m (omega arith) h ∙ ap (entry_mark n ws) q ∙ sym e ∙ ap (entry_mark n (ws ++ (channel n j ∷ []))) (sym q)

  marked_to-set : (i x : ℕ) (marks : List ℕ) → MarkedTo n ws j i marks → i < max_entries → x ≡ entry_mark n (ws ++ (channel n j ∷ [])) i
      → MarkedTo n ws j (i + 1) (set marks i x)
  marked_to-set i x marks M k e = record {
    whole = length-set marks i x ∙ M.whole;
    before = λ m l h. at m l h (dec_lt m i);
    behind = λ m l h. get_or-set_other marks i m x 0 (λ q. omega arith) ∙ M.behind m (omega arith) h;
  }
    where
      at : (m : ℕ) → m < i + 1 → m < size n → Dec (m < i) → get_or (set marks i x) m 0 ≡ entry_mark n (ws ++ (channel n j ∷ [])) m
      at m l h (yes o) = get_or-set_other marks i m x 0 (λ q. omega arith) ∙ M.before m o h
      at m l h (no o) =
          let q : m ≡ i = omega arith in
          ap (λ (y : ℕ). get_or (set marks i x) y 0) q
          ∙ get_or-set_same marks i x 0 (omega (arith, M.whole))
          ∙ e
          ∙ ap (entry_mark n (ws ++ (channel n j ∷ []))) (sym q)

  pub marked_to-all : (i : ℕ) (marks : List ℕ) → size n ≤ i → MarkedTo n ws j i marks → Marked n (ws ++ (channel n j ∷ [])) marks
  marked_to-all i marks l M = record { whole = M.whole; each = λ m h. M.before m (omega arith) h }

-- the mark of entry i is brought up to date, as the code does it
module _ (n : Net) (T : IsTree n) (few : size n ≤ max_entries) (k : ℕ) (late : k < size n) (j : ℕ) (l : j < size n) (i : ℕ) (h : i < size n)
    (marks : List ℕ) (M : MarkedTo n (written_of n k) j i marks) where
  abbrev ws : List ℕ
  ws = written_of n k

  short : length ws ≤ max_entries
  short = omega (arith, written-length (has n) (edge n) k)

  mark-now : get_or marks i 0 ≡ entry_mark n ws i
  mark-now = M.behind i (omega arith) h

  pub marked_to-own : i ≡ j → MarkedTo n ws j (i + 1) (set marks i written_mark)
  marked_to-own e =
      marked_to-set n ws j i written_mark marks M (omega arith) (sym (mark-own n T ws short j l) ∙ ap (entry_mark n (ws ++ (channel n j ∷ []))) (sym e))

  module _ (d : i ≡ j → ⊥) where
    pub marked_to-kept : (get_or marks i 0 ≡ no_parent → ⊥) → MarkedTo n ws j (i + 1) marks
    marked_to-kept f = marked_to-keep n ws j i marks M (mark-kept n T ws short j l i h d (λ e. f (mark-now ∙ e)))

    pub marked_to-new : get_or marks i 0 ≡ no_parent → (i ≡ parent n j) ⊎ (parent n i ≡ j) → MarkedTo n ws j (i + 1) (set marks i k)
    marked_to-new e p =
        marked_to-set n ws j i k marks M (omega arith)
        (sym (mark-new n T ws short j l i h d (sym mark-now ∙ e) (code-joined n T few i j h l p) ∙ written-length (has n) (edge n) k))

    pub marked_to-far : get_or marks i 0 ≡ no_parent → ((i ≡ parent n j) ⊎ (parent n i ≡ j) → ⊥) → MarkedTo n ws j (i + 1) marks
    marked_to-far e p =
        let q = sym mark-now ∙ e in
        marked_to-keep n ws j i marks M (mark-none n T ws short j l i h d q (λ z. p (joined-code n T few i j h l z)) ∙ sym q)
