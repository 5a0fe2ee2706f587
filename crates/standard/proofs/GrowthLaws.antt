-- Laws of the entry that is written next while a net's canonical tree is written (specs/Growth.antt). Assumes nothing.
-- code-follows, follows-code: what the code tests says that an entry may follow. chain-next: what the code's chain gives. next-mark: its mark is its parent.
-- next-bytes, record-bytes: the bytes of an entry, and of a record.
use mathlib.Core.Path.{◌≡◌, refl, sym, ap, ap₂, ◌∙◌}
use mathlib.Core.Logic.{◌⊎◌, inl, inr, ⊎_elim}
use Prim.Native.Nat.{ℕ, zero, suc, ◌≤◌, ◌<◌}
use native.Mathlib.Omega.{arith}
use native.Mathlib.Decide.{dec_lt}
use mathlib.Core.List.{List, [], ◌∷◌, ◌++◌}
use mathlib.Core.Bool.{Bool, true, false, not}
use lib.ListN.{length, get_or}
use borrow.Author.Tests.{eqb-true, eq-eqb, ltb-true, lt-ltb}
use Rattle.std.proofs.Common.{Option, Some, None, MatchOption, ◌||◌, eqb, ltb}
use Rattle.bounded.specs.Bounded.{joined}
use Rattle.bounded.specs.Lists.{memb}
use Rattle.bounded.proofs.BoundedLaws.{true-both, either_true, left-true, right-true, lowest_below-le}
use Rattle.bounded.proofs.ListsLaws.{true-any_in}
use Rattle.grid.specs.Grid.{max_channels}
use Rattle.net.specs.Net.{Net, Mark, number_size, net_of, max_entries, size, channel, parent, has, edge, entry_of}
use Rattle.net.specs.Facts.{WholeRecord}
use Rattle.net.proofs.NetLaws.{has-at, has-entry}
use Rattle.netsearch.proofs.TrackLaws.{has-home, edge-has}
use Rattle.encoding.specs.Encoding.{u16_bytes, number_bytes, head_bytes, entry_bytes, record_from}
use Rattle.encoding.proofs.OwnLaws.{head-own}
use Rattle.canonical.specs.Canonical.{may_follow, next_channel, parent_among, canonical_net}
use Rattle.canonical.proofs.WrittenLaws.{written_none, written-length, may_follow-first, may_follow-later}
use Rattle.canonical.proofs.CanonicalLaws.{next-home, follows-reached, entry-reached, canonical-size, canonical-channel, canonical-parent}
use Rattle.standard.specs.Growth.{entry_mark, Marked, any_meet, IsTree, NextEntry, record_in_form}
use Rattle.canonical.specs.Facts.{written_of}
use Rattle.standard.proofs.MarkLaws.{entry_mark-left, mark-follows, follows-mark}

-- ---- the entry that is written next

module _ (n : Net) (T : IsTree n) where
  abbrev follows : List ℕ → ℕ → Bool
  follows ws = may_follow (has n) (edge n) ws

  follows-has : (ws : List ℕ) (c : ℕ) → follows ws c ≡ true → has n c ≡ true
  follows-has [] c e = sym (may_follow-first (has n) (edge n) c) ∙ e
  follows-has (w ∷ ws) c e =
      let r = follows-reached any_meet n T.accepted T.low (w ∷ ws) c (omega arith) e in
      (edge-has any_meet n T.accepted c r.0 r.1.joint).0

  -- it may follow, and is not written yet
  next-fresh : (k : ℕ) → k < size n → memb (next_channel (has n) (edge n) (written_of n k)) (written_of n k) ≡ false
  unfolding memb
  next-fresh zero h = ap (memb (next_channel (has n) (edge n) (written_of n 0))) (written_none (has n) (edge n))
  next-fresh (suc k) h = (entry-reached any_meet n T.accepted T.low (suc k) (omega arith) h).1.1.fresh

  next-follows : (k : ℕ) → k < size n → follows (written_of n k) (next_channel (has n) (edge n) (written_of n k)) ≡ true
  next-follows zero h =
      ap (λ (ws : List ℕ). follows ws (next_channel (has n) (edge n) ws)) (written_none (has n) (edge n))
      ∙ may_follow-first (has n) (edge n) _
      ∙ ap (has n) (next-home any_meet n T.accepted T.low)
      ∙ has-home any_meet n T.accepted
  next-follows (suc k) h =
      let ws = written_of n (suc k) in
      let r = (entry-reached any_meet n T.accepted T.low (suc k) (omega arith) h).1 in
      let c = next_channel (has n) (edge n) ws in
      may_follow-later (has n) (edge n) ws c (omega (arith, written-length (has n) (edge n) (suc k)))
      ∙ true-both (not (memb c ws)) _ (ap not r.1.fresh) (true-any_in (edge n c) ws r.0 r.1.from r.1.joint)

-- an entry that may follow, where none that may has a lower channel
pub least-next : (n : Net) (T : IsTree n) (k : ℕ) → k < size n → (best : ℕ) → best < size n → may_follow (has n) (edge n) (written_of n k) (channel n best) ≡ true
    → ((i : ℕ) → i < size n → may_follow (has n) (edge n) (written_of n k) (channel n i) ≡ true → channel n best ≤ channel n i) → NextEntry n k best
unfolding next_channel
least-next n T k h best within f least =
    let ws = written_of n k in
    let c = next_channel (has n) (edge n) ws in
    let e = has-entry n c (follows-has n T ws c (next-follows n T k h)) in
    let a = least (entry_of n c) e.0 (ap (may_follow (has n) (edge n) ws) e.1 ∙ next-follows n T k h) in
    let m = lowest_below-le max_channels (may_follow (has n) (edge n) ws) (channel n best) (T.low _ (has-at n best within)) f in
    record { within = within; next = omega (arith, e.1) }

-- and there is one
pub some-next : (n : Net) (T : IsTree n) (k : ℕ) → k < size n → (i : ℕ) × (i < size n) × (may_follow (has n) (edge n) (written_of n k) (channel n i) ≡ true)
some-next n T k h =
    let c = next_channel (has n) (edge n) (written_of n k) in
    let e = has-entry n c (follows-has n T (written_of n k) c (next-follows n T k h)) in
    (entry_of n c, e.0, ap (may_follow (has n) (edge n) (written_of n k)) e.1 ∙ next-follows n T k h)

-- the test of the code: nothing is written, or the mark is a place
module _ (n : Net) (few : size n ≤ max_entries) (k : ℕ) (h : k < size n) (marks : List ℕ) (M : Marked n (written_of n k) marks) (i : ℕ) (l : i < size n) where
  short : length (written_of n k) ≤ max_entries
  short = omega (arith, written-length (has n) (edge n) k)

  first-follows : k ≡ 0 → may_follow (has n) (edge n) (written_of n k) (channel n i) ≡ true
  first-follows e =
      ap (λ (m : ℕ). may_follow (has n) (edge n) (written_of n m) (channel n i)) e
      ∙ ap (λ (ws : List ℕ). may_follow (has n) (edge n) ws (channel n i)) (written_none (has n) (edge n))
      ∙ may_follow-first (has n) (edge n) (channel n i)
      ∙ has-at n i l

  pub code-follows : (k ≡ 0) ⊎ (get_or marks i 0 < max_entries) → may_follow (has n) (edge n) (written_of n k) (channel n i) ≡ true
  code-follows (inl e) = first-follows e
  code-follows (inr o) = at (dec_lt 0 k)
    where
      at : Dec (0 < k) → may_follow (has n) (edge n) (written_of n k) (channel n i) ≡ true
      at (yes z) = mark-follows n (written_of n k) short i (omega (arith, written-length (has n) (edge n) k)) (omega (arith, M.each i l))
      at (no z) = first-follows (omega arith)

  pub follows-code : may_follow (has n) (edge n) (written_of n k) (channel n i) ≡ true → (k ≡ 0 → ⊥) → get_or marks i 0 < max_entries
  follows-code e z =
      let o : 0 < length (written_of n k) = late (dec_lt 0 k) in
      omega (arith, M.each i l, follows-mark n (written_of n k) short i o e)
    where
      late : Dec (0 < k) → 0 < length (written_of n k)
      late (yes o) = omega (arith, written-length (has n) (edge n) k)
      late (no o) = absurd (z (omega arith))

-- what the chain gives of the entries that pass the code's test: one is there, and it is the next
abbrev pub may : ℕ → List ℕ → ℕ → Bool
may k marks i = eqb k 0 || ltb (get_or marks i 0) max_entries

pub chain-next : (n : Net) (T : IsTree n) (few : size n ≤ max_entries) (k : ℕ) (h : k < size n) (marks : List ℕ) → Marked n (written_of n k) marks
    → (count : ℕ) → count ≡ size n → (r : Option ℕ)
    → MatchOption r ((i : ℕ) → i < count → may k marks i ≡ true → ⊥)
    (λ m. (m < count) × (may k marks m ≡ true) × ((i : ℕ) → i < count → may k marks i ≡ true → channel n m ≤ channel n i))
    → (m : ℕ) × (r ≡ Some m) × NextEntry n k m
chain-next n T few k h marks M count e r w = at r w
  where
    follows-may : (i : ℕ) → i < size n → may_follow (has n) (edge n) (written_of n k) (channel n i) ≡ true → may k marks i ≡ true
    follows-may i l f = at (dec_lt 0 k)
      where
        at : Dec (0 < k) → may k marks i ≡ true
        at (yes o) = right-true (eqb k 0) _ (lt-ltb _ _ (follows-code n few k h marks M i l f (λ z. omega arith)))
        at (no o) = left-true _ _ (eq-eqb k 0 (omega arith))

    may-follows : (i : ℕ) → i < size n → may k marks i ≡ true → may_follow (has n) (edge n) (written_of n k) (channel n i) ≡ true
    may-follows i l f =
        code-follows n few k h marks M i l (⊎_elim (λ q. inl (eqb-true k 0 q)) (λ q. inr (ltb-true _ _ q)) (either_true (eqb k 0) _ f))

    at : (r : Option ℕ) → MatchOption r ((i : ℕ) → i < count → may k marks i ≡ true → ⊥)
        (λ m. (m < count) × (may k marks m ≡ true) × ((i : ℕ) → i < count → may k marks i ≡ true → channel n m ≤ channel n i))
        → (m : ℕ) × (r ≡ Some m) × NextEntry n k m
    at None w = let s = some-next n T k h in absurd (w s.0 (omega (arith, s.1)) (follows-may s.0 s.1 s.2))
    at (Some m) w =
        let l : m < size n = omega (arith, w.0) in
        (m, refl, least-next n T k h m l (may-follows m l w.1) (λ i o f. w.2 i (omega arith) (follows-may i o f)))

-- its mark is its parent
next-mark : (n : Net) (T : IsTree n) (k : ℕ) → k < size n → (j : ℕ) → NextEntry n k j → entry_mark n (written_of n k) j ≡ parent (canonical_net n) k
next-mark n T k h j N =
    entry_mark-left n (written_of n k) j (ap (λ (c : ℕ). memb c (written_of n k)) N.next ∙ next-fresh n T k h)
    ∙ ap (parent_among (edge n) (written_of n k)) N.next
    ∙ sym (canonical-parent n k h)

-- the bytes that are written for it: x is its channel, and y its mark
pub next-bytes : (n : Net) (T : IsTree n) (k : ℕ) → k < size n → (j x y : ℕ) → NextEntry n k j → x ≡ channel n j → y ≡ entry_mark n (written_of n k) j
    → u16_bytes x ++ u16_bytes y ≡ entry_bytes (canonical_net n) k
unfolding entry_bytes
next-bytes n T k h j x y N e f =
    ap₂ (λ (c p : ℕ). u16_bytes c ++ u16_bytes p) (e ∙ N.next ∙ sym (canonical-channel n k h)) (f ∙ next-mark n T k h j N)

-- the bytes of a record
canonical-number : (n : Net) → (canonical_net n).number ≡ n.number
unfolding canonical_net
canonical-number n = refl

pub record-bytes : (mark : Mark) (r : List ℕ) → WholeRecord (number_size mark) r → ((k : ℕ) → get_or r k 0 < 256)
    → record_in_form (number_size mark) r ≡ record_from mark (canonical_net (net_of (number_size mark) r))
unfolding record_from head_bytes
record-bytes mark r w bytes =
    let n = net_of (number_size mark) r in
    let m = canonical_net n in
    ap (λ (h : List ℕ). h ++ joined (size n) (entry_bytes m)) (sym (head-own mark r w bytes))
    ∙ ap₂ (λ (p q : ℕ). (number_bytes mark p ++ u16_bytes q) ++ joined (size n) (entry_bytes m)) (sym (canonical-number n)) (sym (canonical-size n))
    ∙ ap (λ (k : ℕ). (number_bytes mark m.number ++ u16_bytes (size m)) ++ joined k (entry_bytes m)) (sym (canonical-size n))
