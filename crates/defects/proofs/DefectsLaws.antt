-- Laws of the list of dead wires (specs/Defects.antt). Assumes nothing.
-- is_dead: where a wire is named, of the empty list. list_number: of the empty list. MarkedBelow, what a loop that marks the items has: no item,
-- one more, a wire marked before, all. SameItems: of a list itself, either way round; the same wires are broken, the same conditions hold.
use mathlib.Core.Path.{◌≡◌, refl, sym, ap, ap₂, ◌∙◌, fun_ext}
use mathlib.Core.Bool.{Bool, true, false, not, ◌||◌, or_comm}
use mathlib.Core.List.{List, []}
use Prim.Native.Nat.{ℕ, ◌+◌, ◌%◌, ◌≤◌, ◌<◌}
use native.Mathlib.Omega.{arith}
use lib.Dec.{ltb, eqb}
use lib.ListN.{length, replicate, length-replicate}
use Rattle.bounded.specs.Bounded.{any_below}
use Rattle.bounded.proofs.BoundedLaws.{same_test, any_below-none, any_below-more, any_below-true, true-any_below, count_below-any, count_below-two, two-count_below}
use Rattle.numbers.specs.Numbers.{first_number}
use Rattle.grid.specs.Grid.{Wire, same_wire}
use Rattle.grid.proofs.WireLaws.{same_wire-true, true-same_wire, same_wire-sym}
use Rattle.marks.specs.Marks.{holding, marked_in}
use Rattle.marks.proofs.MarksLaws.{held_at-fresh, held_at-holding, holding-length}
use Rattle.defects.specs.Defects.{item_length, item_count, item_at, is_dead, bad_item, bad_list, repeated_item, namings, SameItems}
use Rattle.defects.specs.Facts.{list_number, Marked}

-- ---- is_dead

-- a wire is broken exactly if the list names it
pub is_dead-named : (d : List ℕ) (v : Wire) → is_dead d v ≡ ltb 0 (namings d v)
unfolding is_dead namings
is_dead-named d v = count_below-any (item_count d) (λ k. same_wire v (item_at d k))

-- with the empty list no wire is broken
pub is_dead-none : (v : Wire) → is_dead [] v ≡ false
unfolding is_dead any_below
is_dead-none v = refl

-- ---- list_number

-- with the empty list neither 19 nor 20 applies
pub list_number-none : (count : ℕ) → list_number count [] ≡ 0
unfolding list_number first_number bad_list repeated_item any_below
list_number-none count = refl

-- ---- MarkedBelow

-- item k is the same wire as one before it
abbrev repeats_at : List ℕ → ℕ → Bool
repeats_at d k = any_below k (λ l. same_wire (item_at d k) (item_at d l))

-- A loop that marks the items one by one: the marks m hold those before k, and no others; none of them is one before it.
pub record MarkedBelow (d m : List ℕ) (k : ℕ) : Type 0 where
  pub within : k ≤ item_count d
  pub sized : length m ≡ 480
  pub held : (v : Wire) → marked_in m v ≡ any_below k (λ i. same_wire v (item_at d i))
  pub once : any_below k (repeats_at d) ≡ false

pub marked-none : (d : List ℕ) → MarkedBelow d (replicate 480 0) 0
marked-none d = record {
  within = omega arith;
  sized = length-replicate {A = ℕ} 480 0;
  held = λ v. held_at-fresh 480 v.channel v.track ∙ sym (any_below-none (λ i. same_wire v (item_at d i)));
  once = any_below-none (repeats_at d);
}

module _ {d m : List ℕ} {k : ℕ} (b : MarkedBelow d m k) where
  pub marked_more : k < item_count d → (item_at d k).channel < 480 → marked_in m (item_at d k) ≡ false
      → MarkedBelow d (holding m (item_at d k).channel (item_at d k).track) (k + 1)
  marked_more h l e = record {
    within = omega arith;
    sized = holding-length m u.channel u.track ∙ b.sized;
    held = λ v.
        held_at-holding m u.channel u.track v.channel v.track (omega (arith, b.sized)) e
        ∙ ap₂ ◌||◌ (same_wire-sym u v) (b.held v)
        ∙ or_comm (same_wire v u) (any_below k (λ i. same_wire v (item_at d i)))
        ∙ sym (any_below-more k (λ i. same_wire v (item_at d i)));
    once = any_below-more k (repeats_at d) ∙ ap₂ ◌||◌ b.once (sym (b.held u) ∙ e);
  }
    where
      u : Wire
      u = item_at d k

  pub marked-twice : k < item_count d → marked_in m (item_at d k) ≡ true → repeated_item d ≡ true
  unfolding repeated_item
  marked-twice h e = true-any_below (item_count d) (repeats_at d) k h (sym (b.held (item_at d k)) ∙ e)

  pub marked_all : item_count d ≤ k → (repeated_item d ≡ false) × Marked d m
  unfolding repeated_item is_dead
  marked_all l =
      let q : k ≡ item_count d = omega (arith, b.within) in (
        ap (λ (n : ℕ). any_below n (repeats_at d)) (sym q) ∙ b.once,
        fun_ext (λ v. b.held v ∙ ap (λ (n : ℕ). any_below n (λ i. same_wire v (item_at d i))) q),
      )

-- ---- SameItems

pub same_items-self : (d : List ℕ) → SameItems d d
same_items-self d = record { sized = refl; items = λ v. refl }

pub same_items-sym : {d e : List ℕ} → SameItems d e → SameItems e d
same_items-sym s = record { sized = sym s.sized; items = λ v. sym (s.items v) }

-- the same wires are broken
pub same_items-dead : {d e : List ℕ} → SameItems d e → is_dead d ≡ is_dead e
same_items-dead {d} {e} s = fun_ext (λ v. is_dead-named d v ∙ ap (ltb 0) (s.items v) ∙ sym (is_dead-named e v))

-- item k of d is item l of e, for some l
other : {d e : List ℕ} → SameItems d e → (k : ℕ) → k < item_count d → (l : ℕ) × (l < item_count e) × (item_at d k ≡ item_at e l)
unfolding is_dead
other {d} {e} s k h =
    let v = item_at d k in
    let own = true-any_below (item_count d) (λ i. same_wire v (item_at d i)) k h (true-same_wire v v refl) in
    let there = sym (ap (λ (f : Wire → Bool). f v) (same_items-dead s)) ∙ own in
    let r = any_below-true (item_count e) (λ i. same_wire v (item_at e i)) there in
    (r.0, r.1, same_wire-true v (item_at e r.0) r.2)

-- some item has what the test asks
any_item : {d e : List ℕ} → SameItems d e → (test : Wire → Bool)
    → any_below (item_count d) (λ k. test (item_at d k)) ≡ true → any_below (item_count e) (λ k. test (item_at e k)) ≡ true
any_item {d} {e} s test h =
    let r = any_below-true (item_count d) (λ k. test (item_at d k)) h in
    let o = other s r.0 r.1 in
    true-any_below (item_count e) (λ k. test (item_at e k)) o.0 o.1 (ap test (sym o.2) ∙ r.2)

pub same_items-bad : {d e : List ℕ} (count : ℕ) → SameItems d e → bad_list count d ≡ bad_list count e
unfolding bad_list
same_items-bad {d} {e} count s =
    ap₂ ◌||◌
    (ap (λ (n : ℕ). not (eqb (n % item_length) 0)) s.sized)
    (same_test _ _ (any_item s (bad_item count)) (any_item (same_items-sym s) (bad_item count)))

-- two items are one wire
repeated_items : {d e : List ℕ} → SameItems d e → repeated_item d ≡ true → repeated_item e ≡ true
unfolding repeated_item namings
repeated_items {d} {e} s h =
    let k = any_below-true (item_count d) (repeats_at d) h in
    let v = item_at d k.0 in
    let l = any_below-true k.0 (λ i. same_wire v (item_at d i)) k.2 in
    let two = two-count_below (item_count d) (λ i. same_wire v (item_at d i)) k.0 l.0 l.1 k.1 (true-same_wire v v refl) l.2 in
    let r = count_below-two (item_count e) (λ i. same_wire v (item_at e i)) (omega (arith, s.items v)) in
    let same = sym (same_wire-true v _ r.4) ∙ same_wire-true v _ r.5 in
    true-any_below (item_count e) (repeats_at e) r.0 r.3
    (true-any_below r.0 (λ i. same_wire (item_at e r.0) (item_at e i)) r.1 r.2 (true-same_wire _ _ same))

pub same_items-repeated : {d e : List ℕ} → SameItems d e → repeated_item d ≡ repeated_item e
same_items-repeated s = same_test _ _ (repeated_items s) (repeated_items (same_items-sym s))
