-- Laws of the rim (specs/Grid.antt; 02, M-104). Assumes nothing.
-- box_column, box_row: of the box at a column and a row. has_channel: exactly where a channel ends, and no two end there. on_rim: exactly in the
-- first or the last column, or in the first or the last row.
use mathlib.Core.Path.{◌≡◌, sym, subst, ap, ◌∙◌}
use mathlib.Core.Logic.{inl, inr, ◌↔◌}
use mathlib.Core.List.{[], ◌∷◌}
use mathlib.Core.Bool.{Bool, true, false, true≢false}
use Prim.Native.Nat.{ℕ, zero, suc, ◌+◌, ◌-◌, ◌<◌, ◌≤◌}
use native.Mathlib.Omega.{arith}
use native.Mathlib.Decide.{dec_lt, ℕ_discrete}
use native.Mathlib.Nat.{div-add-mod'}
use lib.Dec.{ltb, leb}
use lib.ListN.{get_or}
use borrow.Author.Tests.{ltb-true, lt-ltb, le-ltb, lt-leb, le-leb}
use Rattle.grid.specs.declared.Grid.{Grid}
use Rattle.grid.specs.declared.End.{End}
use Rattle.grid.specs.Grid.{box_at, right_count, channel_right, channel_up, left, top, right, bottom, Numbered, runs_right, runs_up, box_column, box_row, has_channel, channels_on, channels_at, all_channels, on_rim}
use Rattle.grid.specs.Facts.{Sized, HasEnd, EndsThere, Outer, first_column, last_column, first_row, last_row}
use Rattle.grid.proofs.GridLaws.{digit-div, digit-mod, first_end-right, first_end-up, second_end-right, second_end-up, next_row, right_number, right_number-right_box, first_end-channel_right, second_end-channel_right, first_end-channel_up, second_end-channel_up}

-- ---- box_column, box_row

module _ (g : Grid) (c r : ℕ) (in_cols : c < g.cols) where
  box_column-box_at : box_column g (box_at g c r) ≡ c
  box_column-box_at = digit-mod r g.cols c in_cols

  box_row-box_at : box_row g (box_at g c r) ≡ r
  box_row-box_at = digit-div r g.cols c in_cols

-- ---- has_channel: by side, at a column and a row

module _ (g : Grid) (c r : ℕ) (in_cols : c < g.cols) where
  left-channel : has_channel g (box_at g c r) left ≡ ltb 0 c
  unfolding has_channel
  left-channel = ap (ltb 0) (box_column-box_at g c r in_cols)

  top-channel : has_channel g (box_at g c r) top ≡ ltb (r + 1) g.rows
  unfolding has_channel
  top-channel = ap (λ (x : ℕ). ltb (x + 1) g.rows) (box_row-box_at g c r in_cols)

  right-channel : has_channel g (box_at g c r) right ≡ ltb (c + 1) g.cols
  unfolding has_channel
  right-channel = ap (λ (x : ℕ). ltb (x + 1) g.cols) (box_column-box_at g c r in_cols)

  bottom-channel : has_channel g (box_at g c r) bottom ≡ ltb 0 r
  unfolding has_channel
  bottom-channel = ap (ltb 0) (box_row-box_at g c r in_cols)

module _ (g : Grid) (c r : ℕ) (in_cols : c < g.cols) (in_rows : r < g.rows) where
  left_ended : 0 < c → EndsThere g (record { at = box_at g c r; side = left })
  left_ended p =
      let e : c - 1 + 1 ≡ c = omega arith in
      let l : c - 1 + 1 < g.cols = omega arith in
      (channel_right g (c - 1) r, (runs_right (c - 1) r l in_rows, inr (second_end-channel_right g (c - 1) r l in_rows ∙ ap (λ (x : ℕ). record { at = box_at g x r; side = left }) e)))

  top-ended : r + 1 < g.rows → EndsThere g (record { at = box_at g c r; side = top })
  top-ended p = (channel_up g c r, (runs_up c r in_cols p, inl (first_end-channel_up g c r in_cols p)))

  right-ended : c + 1 < g.cols → EndsThere g (record { at = box_at g c r; side = right })
  right-ended p = (channel_right g c r, (runs_right c r p in_rows, inl (first_end-channel_right g c r p in_rows)))

  bottom-ended : 0 < r → EndsThere g (record { at = box_at g c r; side = bottom })
  bottom-ended p =
      let e : r - 1 + 1 ≡ r = omega arith in
      let l : r - 1 + 1 < g.rows = omega arith in
      (channel_up g c (r - 1), (runs_up c (r - 1) in_cols l, inr (second_end-channel_up g c (r - 1) in_cols l ∙ ap (λ (x : ℕ). record { at = box_at g c x; side = bottom }) e)))

  side-ended : (s : ℕ) → s < 4 → has_channel g (box_at g c r) s ≡ true → EndsThere g (record { at = box_at g c r; side = s })
  side-ended zero l h = left_ended (ltb-true 0 c (sym (left-channel g c r in_cols) ∙ h))
  side-ended (suc zero) l h = top-ended (ltb-true (r + 1) g.rows (sym (top-channel g c r in_cols) ∙ h))
  side-ended (suc (suc zero)) l h = right-ended (ltb-true (c + 1) g.cols (sym (right-channel g c r in_cols) ∙ h))
  side-ended (suc (suc (suc zero))) l h = bottom-ended (ltb-true 0 r (sym (bottom-channel g c r in_cols) ∙ h))
  side-ended (suc (suc (suc (suc s)))) l h = absurd (omega arith)

-- an end of a channel is on a side that has one
ended-side : (g : Grid) (n : ℕ) (e : End) → Numbered g n → HasEnd g n e → has_channel g e.at e.side ≡ true
ended-side g n e (runs_right c r p q) (inl h) =
    subst (λ (k : End). has_channel g k.at k.side ≡ true) (sym (first_end-channel_right g c r p q) ∙ h)
    (right-channel g c r (omega arith) ∙ lt-ltb (c + 1) g.cols p)
ended-side g n e (runs_right c r p q) (inr h) =
    subst (λ (k : End). has_channel g k.at k.side ≡ true) (sym (second_end-channel_right g c r p q) ∙ h)
    (left-channel g (c + 1) r p ∙ lt-ltb 0 (c + 1) (omega arith))
ended-side g n e (runs_up c r p q) (inl h) =
    subst (λ (k : End). has_channel g k.at k.side ≡ true) (sym (first_end-channel_up g c r p q) ∙ h)
    (top-channel g c r p ∙ lt-ltb (r + 1) g.rows q)
ended-side g n e (runs_up c r p q) (inr h) =
    subst (λ (k : End). has_channel g k.at k.side ≡ true) (sym (second_end-channel_up g c r p q) ∙ h)
    (bottom-channel g c (r + 1) p ∙ lt-ltb 0 (r + 1) (omega arith))

-- a side of a box has a channel exactly if one ends there
pub side-channel :
    (g : Grid) (c r s : ℕ)
    → c < g.cols
    → r < g.rows
    → s < 4
    → (has_channel g (box_at g c r) s ≡ true) ↔ EndsThere g (record { at = box_at g c r; side = s })
side-channel g c r s p q l =
    (side-ended g c r p q s l, λ h. ended-side g h.0 (record { at = box_at g c r; side = s }) h.1.0 h.1.1)

-- the number of the channel that ends on a side of a box, back from there
abbrev channel_on : Grid → End → ℕ
channel_on g e =
    get_or
    (right_number g (e.at - 1) ∷ (right_count g + e.at) ∷ right_number g e.at ∷ (right_count g + e.at - g.cols) ∷ [])
    e.side
    0

channel_on-end : {g : Grid} → Sized g → (n : ℕ) (e : End) → HasEnd g n e → channel_on g e ≡ n
channel_on-end {g} z n e i = by (dec_lt n (right_count g)) i
  where
    u : ℕ
    u = n - right_count g

    by : Dec (n < right_count g) → HasEnd g n e → channel_on g e ≡ n
    by (yes a) (inl i) = ap (channel_on g) (sym i ∙ first_end-right g n a) ∙ right_number-right_box z n
    by (yes a) (inr i) =
        ap (channel_on g) (sym i ∙ second_end-right g n a) ∙ ap (right_number g) (omega arith) ∙ right_number-right_box z n
    by (no a) (inl i) = ap (channel_on g) (sym i ∙ first_end-up g n (omega arith)) ∙ omega (arith, div-add-mod' u g.cols)
    by (no a) (inr i) =
        ap (channel_on g) (sym i ∙ second_end-up g n (omega arith)) ∙ omega (arith, div-add-mod' u g.cols, next_row u g.cols)

-- no two channels end there
pub end-unique : {g : Grid} → Sized g → (n m : ℕ) (e : End) → HasEnd g n e → HasEnd g m e → n ≡ m
end-unique z n m e i j = sym (channel_on-end z n e i) ∙ channel_on-end z m e j

-- ---- on_rim

module _ (g : Grid) (x : ℕ) where
  channels_on-le : (s : ℕ) → channels_on g x s ≤ 1
  unfolding channels_on
  channels_on-le s = by (has_channel g x s)
    where
      by : (b : Bool) → elim b [ true ↦ 1 | false ↦ 0 ] ≤ 1
      by true = omega arith
      by false = omega arith

  channels_on-none : (s : ℕ) → has_channel g x s ≡ false → channels_on g x s ≡ 0
  unfolding channels_on
  channels_on-none s h = rw (h, channels_on)

  channels_on-one : (s : ℕ) → has_channel g x s ≡ true → channels_on g x s ≡ 1
  unfolding channels_on
  channels_on-one s h = rw (h, channels_on)

  few : channels_at g x < all_channels → on_rim g x ≡ true
  unfolding on_rim
  few h = lt-ltb (channels_at g x) all_channels h

  pub on_rim-left : box_column g x ≤ 0 → on_rim g x ≡ true
  unfolding channels_at has_channel
  on_rim-left h =
      let e = channels_on-none left (le-ltb 0 (box_column g x) h) in
      few (omega (arith, e, channels_on-le top, channels_on-le right, channels_on-le bottom))

  pub on_rim-top : g.rows ≤ box_row g x + 1 → on_rim g x ≡ true
  unfolding channels_at has_channel
  on_rim-top h =
      let e = channels_on-none top (le-ltb (box_row g x + 1) g.rows h) in
      few (omega (arith, e, channels_on-le left, channels_on-le right, channels_on-le bottom))

  pub on_rim-right : g.cols ≤ box_column g x + 1 → on_rim g x ≡ true
  unfolding channels_at has_channel
  on_rim-right h =
      let e = channels_on-none right (le-ltb (box_column g x + 1) g.cols h) in
      few (omega (arith, e, channels_on-le left, channels_on-le top, channels_on-le bottom))

  pub on_rim-bottom : box_row g x ≤ 0 → on_rim g x ≡ true
  unfolding channels_at has_channel
  on_rim-bottom h =
      let e = channels_on-none bottom (le-ltb 0 (box_row g x) h) in
      few (omega (arith, e, channels_on-le left, channels_on-le top, channels_on-le right))

  pub on_rim-inner : 0 < box_column g x → box_row g x + 1 < g.rows → box_column g x + 1 < g.cols → 0 < box_row g x → on_rim g x ≡ false
  unfolding on_rim channels_at has_channel
  on_rim-inner a b c d =
      let l = channels_on-one left (lt-ltb 0 (box_column g x) a) in
      let t = channels_on-one top (lt-ltb (box_row g x + 1) g.rows b) in
      let r = channels_on-one right (lt-ltb (box_column g x + 1) g.cols c) in
      let o = channels_on-one bottom (lt-ltb 0 (box_row g x) d) in
      le-ltb (channels_at g x) all_channels (omega (arith, l, t, r, o))

-- between the first and the last column and above the first row, the last row alone is left
pub on_rim-last : (g : Grid) (x : ℕ) → 0 < box_column g x → box_column g x + 1 < g.cols → 0 < box_row g x → on_rim g x ≡ leb (g.rows - 1) (box_row g x)
on_rim-last g x a b c = by (dec_lt (box_row g x + 1) g.rows)
  where
    by : Dec (box_row g x + 1 < g.rows) → on_rim g x ≡ leb (g.rows - 1) (box_row g x)
    by (yes h) = on_rim-inner g x a h b c ∙ sym (lt-leb (g.rows - 1) (box_row g x) (omega arith))
    by (no h) = on_rim-top g x (omega arith) ∙ sym (le-leb (g.rows - 1) (box_row g x) (omega arith))

outer-rim : (g : Grid) (c r : ℕ) → c < g.cols → Outer g c r → on_rim g (box_at g c r) ≡ true
outer-rim g _ _ p (first_column r) = on_rim-left g (box_at g 0 r) (omega (arith, box_column-box_at g 0 r p))
outer-rim g _ _ p (last_column r) = on_rim-right g (box_at g (g.cols - 1) r) (omega (arith, box_column-box_at g (g.cols - 1) r p))
outer-rim g _ _ p (first_row c) = on_rim-bottom g (box_at g c 0) (omega (arith, box_row-box_at g c 0 p))
outer-rim g _ _ p (last_row c) = on_rim-top g (box_at g c (g.rows - 1)) (omega (arith, box_row-box_at g c (g.rows - 1) p))

rim-outer : (g : Grid) (c r : ℕ) → c < g.cols → r < g.rows → on_rim g (box_at g c r) ≡ true → Outer g c r
rim-outer g c r p q h = by (ℕ_discrete c 0) (ℕ_discrete c (g.cols - 1)) (ℕ_discrete r 0) (ℕ_discrete r (g.rows - 1))
  where
    col : box_column g (box_at g c r) ≡ c
    col = box_column-box_at g c r p

    row : box_row g (box_at g c r) ≡ r
    row = box_row-box_at g c r p

    by : Dec (c ≡ 0) → Dec (c ≡ g.cols - 1) → Dec (r ≡ 0) → Dec (r ≡ g.rows - 1) → Outer g c r
    by (yes e) u v w = subst (λ (k : ℕ). Outer g k r) (sym e) (first_column r)
    by (no e) (yes u) v w = subst (λ (k : ℕ). Outer g k r) (sym u) (last_column r)
    by (no e) (no u) (yes v) w = subst (λ (k : ℕ). Outer g c k) (sym v) (first_row c)
    by (no e) (no u) (no v) (yes w) = subst (λ (k : ℕ). Outer g c k) (sym w) (last_row c)
    by (no e) (no u) (no v) (no w) =
        absurd
        (true≢false
        (sym h ∙ on_rim-inner g (box_at g c r) (omega (arith, col)) (omega (arith, row)) (omega (arith, col)) (omega (arith, row))))

-- "a box with fewer than four channels": exactly in the first or the last column, or in the first or the last row
pub rim-exactly : (g : Grid) (c r : ℕ) → c < g.cols → r < g.rows → (channels_at g (box_at g c r) < 4) ↔ Outer g c r
unfolding on_rim
rim-exactly g c r p q =
    (λ h. rim-outer g c r p q (lt-ltb (channels_at g (box_at g c r)) 4 h), λ h. ltb-true (channels_at g (box_at g c r)) 4 (outer-rim g c r p h))

-- the tests of a side without a channel, as the code makes them one by one
pub ruleset rim_tests = (on_rim-left, on_rim-right, on_rim-bottom, on_rim-last)
