-- What 19 and 20 say of a list (specs/Defects.antt), by the meaning of their conditions. Assumes nothing.
-- known: 19 does not apply exactly if the items are whole and of the chip. unrepeated: 20, if no wire is named twice. list-exactly: when each
-- number comes; accepted-none: of the empty list. same_items: the same items have one number, and the same wires below every width.
use mathlib.Core.Path.{◌≡◌, refl, sym, ap, ap₂, ◌∙◌}
use mathlib.Core.Logic.{◌↔◌}
use mathlib.Core.Bool.{Bool, true, false, not, ◌||◌, true≢false}
use mathlib.Core.List.{List, [], ◌∷◌}
use Prim.Native.Nat.{ℕ, ◌%◌, ◌≤◌, ◌<◌}
use native.Mathlib.Omega.{arith}
use borrow.Author.Tests.{ltb-false, leb-false, eqb-true, le-ltb, lt-leb, eq-eqb, not-false}
use lib.Dec.{ltb, leb, eqb}
use lib.ListN.{length}
use Rattle.bounded.specs.Bounded.{any_below}
use Rattle.bounded.proofs.BoundedLaws.{cannot-pass, neither, any_below-true, any_below-false}
use Rattle.numbers.specs.Numbers.{first_number, list_no, repeat_no}
use Rattle.grid.specs.Grid.{Wire}
use Rattle.grid.proofs.WireLaws.{same_wire-true, true-same_wire}
use Rattle.defects.specs.Defects.{item_length, item_count, item_at, max_track, bad_item, bad_list, repeated_item, KnownItems, NoRepeat, AcceptedList, ListExactly, SameItems, SameBelow}
use Rattle.defects.specs.Facts.{list_number}
use Rattle.defects.proofs.DefectsLaws.{list_number-none, same_items-dead, same_items-bad, same_items-repeated}

-- 20 by its meaning
pub unrepeated : (d : List ℕ) → (repeated_item d ≡ false) ↔ NoRepeat d
unfolding repeated_item
unrepeated d = (
  (λ e k l h m q.
      true≢false (sym (true-same_wire _ _ q) ∙ any_below-false k _ (any_below-false (item_count d) _ e k h) l m)),
  (λ N. cannot-pass _ (λ e.
      let k = any_below-true (item_count d) _ e in
      let l = any_below-true k.0 _ k.2 in
      N k.0 l.0 k.1 l.1 (same_wire-true _ _ l.2))),
)

module _ (count : ℕ) (d : List ℕ) where
  -- one item
  abbrev GoodItem : ℕ → Type 0
  GoodItem k = ((item_at d k).channel < count) × ((item_at d k).track ≤ max_track)

  bad-good : (k : ℕ) → bad_item count (item_at d k) ≡ false → GoodItem k
  bad-good k e =
      let b = neither (leb count (item_at d k).channel) (ltb max_track (item_at d k).track) e in
      (leb-false count _ b.0, ltb-false max_track _ b.1)

  good-bad : (k : ℕ) → GoodItem k → bad_item count (item_at d k) ≡ false
  good-bad k g = ap₂ ◌||◌ (lt-leb count (item_at d k).channel g.0) (le-ltb max_track (item_at d k).track g.1)

  pub known : (bad_list count d ≡ false) ↔ KnownItems count d
  unfolding bad_list
  known = (
    (λ e.
        let x = neither (not (eqb (length d % item_length) 0)) (any_below (item_count d) (λ k. bad_item count (item_at d k))) e in
        record {
          whole = eqb-true _ 0 (not-false _ x.0);
          channels = λ k h. (bad-good k (any_below-false (item_count d) (λ k. bad_item count (item_at d k)) x.1 k h)).0;
          tracks = λ k h. (bad-good k (any_below-false (item_count d) (λ k. bad_item count (item_at d k)) x.1 k h)).1;
        }),
    (λ K.
        ap₂ ◌||◌ (ap not (eq-eqb (length d % item_length) 0 K.whole))
        (cannot-pass _ (λ e.
        let r = any_below-true (item_count d) (λ k. bad_item count (item_at d k)) e in
        true≢false (sym r.2 ∙ good-bad r.0 (K.channels r.0 r.1, K.tracks r.0 r.1))))),
  )

  pub list-exactly : ListExactly count d (list_number count d)
  unfolding list_number first_number
  list-exactly = at (bad_list count d) (repeated_item d) refl refl
    where
      no : {A : Type 0} {a : Bool} → a ≡ true → (A → a ≡ false) → A → ⊥
      no e f x = true≢false (sym e ∙ f x)

      at : (a b : Bool) → bad_list count d ≡ a → repeated_item d ≡ b → ListExactly count d (first_number ((list_no, a) ∷ (repeat_no, b) ∷ []))
      at true b e f = record {
        zero = ((λ z. absurd (omega arith)), (λ A. absurd (no e known.1 A.0)));
        list = ((λ z K. no e known.1 K), (λ n. refl));
        repeat = ((λ z. absurd (omega arith)), (λ R. absurd (no e known.1 R.0)));
      }
      at false true e f = record {
        zero = ((λ z. absurd (omega arith)), (λ A. absurd (no f (unrepeated d).1 A.1)));
        list = ((λ z. absurd (omega arith)), (λ n. absurd (n (known.0 e))));
        repeat = ((λ z. (known.0 e, λ N. no f (unrepeated d).1 N)), (λ R. refl));
      }
      at false false e f = record {
        zero = ((λ z. (known.0 e, (unrepeated d).0 f)), (λ A. refl));
        list = ((λ z. absurd (omega arith)), (λ n. absurd (n (known.0 e))));
        repeat = ((λ z. absurd (omega arith)), (λ R. absurd (R.1 ((unrepeated d).0 f))));
      }

-- the empty list is accepted
pub accepted-none : (count : ℕ) → AcceptedList count []
accepted-none count = (list-exactly count []).zero.0 (list_number-none count)

-- ---- the same items

-- the same number
pub same_items-number : {d e : List ℕ} (count : ℕ) → SameItems d e → list_number count d ≡ list_number count e
unfolding list_number
same_items-number count I =
    ap₂ (λ (x y : Bool). first_number ((list_no, x) ∷ (repeat_no, y) ∷ [])) (same_items-bad count I) (same_items-repeated I)

-- the same wires below every width
pub same_items-below : {d e : List ℕ} → SameItems d e → (w : ℕ) → SameBelow w d e
same_items-below I w v l = ap (λ (f : Wire → Bool). f v) (same_items-dead I)
