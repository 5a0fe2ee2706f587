-- Laws of the grid and its channels (specs/Grid.antt). Assumes nothing.
-- channel_count: at most 480. first_end, second_end: by direction, in order, and no two channels have the same ends.
-- channel_right, channel_up: their ranges, their ends, and that there are no other channels.
-- meeting_or: case by case. meeting, meet: by the ends, exactly where channels share a box, which is at most one.
use mathlib.Core.Path.{◌≡◌, refl, sym, subst, ap, ◌∙◌}
use mathlib.Core.Logic.{inl, inr}
use mathlib.Core.Bool.{true, true≢false}
use Prim.Native.Nat.{ℕ, suc, ◌+◌, ◌-◌, ◌*◌, ◌/◌, ◌%◌, ◌≤◌, ◌<◌}
use native.Mathlib.Omega.{arith}
use native.Mathlib.Decide.{dec_lt, ℕ_discrete}
use native.Mathlib.Nat.{mod-le, mod-lt, mod-eq_of_lt, mul-add-mod_self_right, mul-add-div_right, div-eq_of_lt, div-add-mod', div-le_self, div-lt_iff_lt-mul, mul-le-mul, mul-le-mul_right, mul_comm, suc-mul, add-mul}
use borrow.Author.Tests.{lt-ltb, le-ltb, eq-eqb, ne_eqb}
use Rattle.grid.specs.declared.Grid.{Grid}
use Rattle.grid.specs.declared.End.{End}
use Rattle.grid.specs.Grid.{box_at, right_count, channel_right, channel_up, channel_count, left, top, right, bottom, first_end, second_end, apart, Meeting, meeting_at, meeting_or, meeting, meet, At, Numbered, runs_right, runs_up}
use Rattle.grid.specs.Facts.{Sized, HasEnd}

-- ---- a number of two digits

pub digit-div : (r k c : ℕ) → c < k → (r * k + c) / k ≡ r
digit-div r k c h = omega (arith, mul-add-div_right {m = k} (omega arith) r c, div-eq_of_lt h)

pub digit-mod : (r k c : ℕ) → c < k → (r * k + c) % k ≡ c
digit-mod r k c h = mul-add-mod_self_right r k c ∙ mod-eq_of_lt h

digit_lt : (n k b : ℕ) → 0 < k → n < b * k → n / k < b
digit_lt n k b p h = (div-lt_iff_lt-mul {k = k} {x = n} {y = b} p).1 h

-- ---- channel_count

pub channel_count-le : {g : Grid} → Sized g → channel_count g ≤ 480
channel_count-le {g} z =
    let p : g.rows * (g.cols - 1) ≤ 16 * 15 = mul-le-mul {m₂ = 15} z.rows_high (omega arith) in
    let q : g.cols * (g.rows - 1) ≤ 16 * 15 = mul-le-mul {m₂ = 15} z.cols_high (omega arith) in
    omega arith

pub right_count-le : {g : Grid} → Sized g → right_count g ≤ 240
right_count-le {g} z = mul-le-mul {m₂ = 15} z.rows_high (omega (arith, z.cols_high))

-- ---- first_end, second_end

-- the first box of the row that a channel that runs right is in
pub row_start-le : {g : Grid} {n : ℕ} → Sized g → n < right_count g → n / (g.cols - 1) * g.cols ≤ 3840
row_start-le {g} {n} z h =
    let p : n / (g.cols - 1) * g.cols ≤ n * 16 = mul-le-mul (div-le_self n (g.cols - 1)) z.cols_high in
    omega (arith, right_count-le z)

-- the first number of the next row
pub next_row : (u cols : ℕ) → (u / cols + 1) * cols ≡ u / cols * cols + cols
next_row u cols = omega (arith, add-mul (u / cols) 1 cols)

module _ (g : Grid) (n : ℕ) where
  pub first_end-right : n < right_count g → first_end g n ≡ record { at = box_at g (n % (g.cols - 1)) (n / (g.cols - 1)); side = right }
  unfolding first_end
  first_end-right h = rw (lt-ltb n (right_count g) h, first_end)

  pub first_end-up :
      right_count g ≤ n → first_end g n ≡ record { at = box_at g ((n - right_count g) % g.cols) ((n - right_count g) / g.cols); side = top }
  unfolding first_end
  first_end-up h = rw (le-ltb n (right_count g) h, first_end)

  pub second_end-right : n < right_count g → second_end g n ≡ record { at = box_at g (n % (g.cols - 1) + 1) (n / (g.cols - 1)); side = left }
  unfolding second_end
  second_end-right h = rw (lt-ltb n (right_count g) h, second_end)

  pub second_end-up :
      right_count g ≤ n → second_end g n ≡ record { at = box_at g ((n - right_count g) % g.cols) ((n - right_count g) / g.cols + 1); side = bottom }
  unfolding second_end
  second_end-up h = rw (le-ltb n (right_count g) h, second_end)

  pub first_end-side-lt : (first_end g n).side < 4
  first_end-side-lt = at (dec_lt n (right_count g))
    where
      at : Dec (n < right_count g) → (first_end g n).side < 4
      at (yes h) = omega (arith, ap (λ (e : End). e.side) (first_end-right h))
      at (no h) = omega (arith, ap (λ (e : End). e.side) (first_end-up (omega arith)))

  pub second_end-side-lt : (second_end g n).side < 4
  second_end-side-lt = at (dec_lt n (right_count g))
    where
      at : Dec (n < right_count g) → (second_end g n).side < 4
      at (yes h) = omega (arith, ap (λ (e : End). e.side) (second_end-right h))
      at (no h) = omega (arith, ap (λ (e : End). e.side) (second_end-up (omega arith)))

-- both ends by the first box: the second is the next one, or the one above
module _ (g : Grid) (n : ℕ) where
  pub ends-right : n < right_count g
      → let x = n / (g.cols - 1) * g.cols + n % (g.cols - 1) in
      (first_end g n ≡ record { at = x; side = right }) × (second_end g n ≡ record { at = x + 1; side = left })
  ends-right h =
      let x = n / (g.cols - 1) * g.cols + n % (g.cols - 1) in
      (first_end-right g n h, second_end-right g n h ∙ ap (λ (y : ℕ). record { at = y; side = left }) (omega arith))

  pub ends-up : right_count g ≤ n
      → let x = n - right_count g in
      (first_end g n ≡ record { at = x; side = top }) × (second_end g n ≡ record { at = x + g.cols; side = bottom })
  ends-up h =
      let x = n - right_count g in
      let d = div-add-mod' x g.cols in (
        first_end-up g n h ∙ ap (λ (y : ℕ). record { at = y; side = top }) d,
        second_end-up g n h ∙ ap (λ (y : ℕ). record { at = y; side = bottom }) (omega (arith, d, next_row x g.cols)),
      )

  -- how far the second box is from the first
  step_right : n < right_count g → (second_end g n).at ≡ (first_end g n).at + 1
  step_right h = let e = ends-right h in omega (arith, ap (λ (e : End). e.at) e.0, ap (λ (e : End). e.at) e.1)

  step-up : right_count g ≤ n → ((first_end g n).at ≡ n - right_count g) × ((second_end g n).at ≡ (first_end g n).at + g.cols)
  step-up h =
      let e = ends-up h in
      let p = ap (λ (e : End). e.at) e.0 in
      let q = ap (λ (e : End). e.at) e.1 in
      (p, omega arith)

pub ends-lt : {g : Grid} → Sized g → (n : ℕ) → (first_end g n).at < (second_end g n).at
ends-lt {g} z n = at (dec_lt n (right_count g))
  where
    at : Dec (n < right_count g) → (first_end g n).at < (second_end g n).at
    at (yes h) = omega (arith, step_right g n h)
    at (no h) = omega (arith, step-up g n (omega arith), z.cols_low)

-- the first box of a channel that runs right, and its number back from there
abbrev pub right_box : Grid → ℕ → ℕ
right_box g n = box_at g (n % (g.cols - 1)) (n / (g.cols - 1))

abbrev pub right_number : Grid → ℕ → ℕ
right_number g x = x / g.cols * (g.cols - 1) + x % g.cols

pub right_number-right_box : {g : Grid} → Sized g → (n : ℕ) → right_number g (right_box g n) ≡ n
right_number-right_box {g} z n =
    let c = n % (g.cols - 1) in
    let r = n / (g.cols - 1) in
    let l : c < g.cols - 1 = mod-lt n (omega (arith, z.cols_low)) in
    let h : c < g.cols = omega arith in
    rw (digit-div r g.cols c h, digit-mod r g.cols c h) (div-add-mod' n (g.cols - 1))

-- channels that run the same way from the same box are the same
pub ends-unique :
    {g : Grid} → Sized g → (n m : ℕ) → (first_end g n).at ≡ (first_end g m).at → (second_end g n).at ≡ (second_end g m).at → n ≡ m
ends-unique {g} z n m p q = at (dec_lt n (right_count g)) (dec_lt m (right_count g))
  where
    first : (k : ℕ) → k < right_count g → (first_end g k).at ≡ right_box g k
    first k h = ap (λ (e : End). e.at) (first_end-right g k h)

    at : Dec (n < right_count g) → Dec (m < right_count g) → n ≡ m
    at (yes h) (yes l) =
        sym (right_number-right_box z n) ∙ ap (right_number g) (sym (first n h) ∙ p ∙ first m l) ∙ right_number-right_box z m
    at (yes h) (no l) = absurd (omega (arith, step_right g n h, step-up g m (omega arith), z.cols_low))
    at (no h) (yes l) = absurd (omega (arith, step-up g n (omega arith), step_right g m l, z.cols_low))
    at (no h) (no l) = omega (arith, step-up g n (omega arith), step-up g m (omega arith))

-- ---- channel_right, channel_up

module _ (g : Grid) (c r : ℕ) (in_cols : c + 1 < g.cols) (in_rows : r < g.rows) where
  pub channel_right-lt : channel_right g c r < right_count g
  channel_right-lt = omega (arith, mul-le-mul_right (g.cols - 1) in_rows, suc-mul r (g.cols - 1))

  pub first_end-channel_right : first_end g (channel_right g c r) ≡ record { at = box_at g c r; side = right }
  first_end-channel_right =
      first_end-right g (channel_right g c r) channel_right-lt
      ∙ rw (digit-div r (g.cols - 1) c (omega arith), digit-mod r (g.cols - 1) c (omega arith))

  pub second_end-channel_right : second_end g (channel_right g c r) ≡ record { at = box_at g (c + 1) r; side = left }
  second_end-channel_right =
      second_end-right g (channel_right g c r) channel_right-lt
      ∙ rw (digit-div r (g.cols - 1) c (omega arith), digit-mod r (g.cols - 1) c (omega arith))

module _ (g : Grid) (c r : ℕ) (in_cols : c < g.cols) (in_rows : r + 1 < g.rows) where
  pub channel_up-ge : right_count g ≤ channel_up g c r
  channel_up-ge = omega arith

  pub channel_up-lt : channel_up g c r < channel_count g
  channel_up-lt =
      let h : suc r ≤ g.rows - 1 = omega arith in
      omega (arith, mul-le-mul_right g.cols h, suc-mul r g.cols, mul_comm g.cols (g.rows - 1))

  among : channel_up g c r - right_count g ≡ r * g.cols + c
  among = omega arith

  pub first_end-channel_up : first_end g (channel_up g c r) ≡ record { at = box_at g c r; side = top }
  first_end-channel_up =
      first_end-up g (channel_up g c r) channel_up-ge ∙ rw (among, digit-div r g.cols c in_cols, digit-mod r g.cols c in_cols)

  pub second_end-channel_up : second_end g (channel_up g c r) ≡ record { at = box_at g c (r + 1); side = bottom }
  second_end-channel_up =
      second_end-up g (channel_up g c r) channel_up-ge ∙ rw (among, digit-div r g.cols c in_cols, digit-mod r g.cols c in_cols)

-- every channel number is one of those
pub channel-numbered : {g : Grid} → Sized g → (n : ℕ) → n < channel_count g → Numbered g n
channel-numbered {g} z n h = at (dec_lt n (right_count g))
  where
    at : Dec (n < right_count g) → Numbered g n
    at (yes l) =
        let k = g.cols - 1 in
        let m : n % k < k = mod-lt n (omega (arith, z.cols_low)) in
        subst (λ (x : ℕ). Numbered g x) (div-add-mod' n k)
        (runs_right (n % k) (n / k) (omega arith) (digit_lt n k g.rows (omega (arith, z.cols_low)) l))
    at (no l) =
        let u = n - right_count g in
        let m : u % g.cols < g.cols = mod-lt u (omega (arith, z.cols_low)) in
        let b : u / g.cols < g.rows - 1 = digit_lt u g.cols (g.rows - 1) (omega (arith, z.cols_low)) (omega (arith, mul_comm g.cols (g.rows - 1))) in
        subst (λ (x : ℕ). Numbered g x) (omega (arith, div-add-mod' u g.cols)) (runs_up (u % g.cols) (u / g.cols) m (omega arith))

-- ---- meeting_or

module _ (p q : End) (m : Meeting) where
  pub meeting_or-here : p.at ≡ q.at → meeting_or p q m ≡ meeting_at p q
  unfolding meeting_or
  meeting_or-here h = rw (eq-eqb p.at q.at h, meeting_or)

  pub meeting_or-else : (p.at ≡ q.at → ⊥) → meeting_or p q m ≡ m
  unfolding meeting_or
  meeting_or-else h = rw (ne_eqb p.at q.at h, meeting_or)

-- ---- meeting, meet

-- the box of an end is at it
pub end-at : (g : Grid) (n : ℕ) (e : End) → HasEnd g n e → At g n e.at
end-at g n e (inl h) = inl (ap (λ (k : End). k.at) h)
end-at g n e (inr h) = inr (ap (λ (k : End). k.at) h)

-- the first two that are at one box, of the ends p and q of one channel and r and s of another
abbrev pub meeting_of : End → End → End → End → Meeting
meeting_of p q r s = meeting_or p r (meeting_or p s (meeting_or q r (meeting_or q s apart)))

module _ (g : Grid) (c d : ℕ) where
  pub meeting-same : c ≡ d → meeting g c d ≡ apart
  unfolding meeting
  meeting-same h = rw (eq-eqb c d h, meeting)

  pub meeting-ends : (c ≡ d → ⊥) → meeting g c d ≡ meeting_of (first_end g c) (second_end g c) (first_end g d) (second_end g d)
  unfolding meeting
  meeting-ends h = rw (ne_eqb c d h, meeting)

  -- different channels meet where they have ends at one box, or are nowhere at one box
  pub data MeetingCase : Type 0 where
    together : (p q : End) → (c ≡ d → ⊥) → HasEnd g c p → HasEnd g d q → p.at ≡ q.at → meeting g c d ≡ meeting_at p q → MeetingCase
    separate : meeting g c d ≡ apart → ((x : ℕ) → (c ≡ d → ⊥) → At g c x → At g d x → ⊥) → MeetingCase

  pub meeting_case : MeetingCase
  meeting_case =
      by
      (ℕ_discrete c d)
      (ℕ_discrete (first_end g c).at (first_end g d).at)
      (ℕ_discrete (first_end g c).at (second_end g d).at)
      (ℕ_discrete (second_end g c).at (first_end g d).at)
      (ℕ_discrete (second_end g c).at (second_end g d).at)
    where
      by :
          Dec (c ≡ d)
          → Dec ((first_end g c).at ≡ (first_end g d).at)
          → Dec ((first_end g c).at ≡ (second_end g d).at)
          → Dec ((second_end g c).at ≡ (first_end g d).at)
          → Dec ((second_end g c).at ≡ (second_end g d).at)
          → MeetingCase
      by (yes h) x y z t = separate (meeting-same h) (λ x n i j. n h)
      by (no h) (yes a) y z t = together _ _ h (inl refl) (inl refl) a (meeting-ends h ∙ meeting_or-here _ _ _ a)
      by (no h) (no a) (yes b) z t =
          together _ _ h (inl refl) (inr refl) b (meeting-ends h ∙ meeting_or-else _ _ _ a ∙ meeting_or-here _ _ _ b)
      by (no h) (no a) (no b) (yes e) t =
          together _ _ h (inr refl) (inl refl) e (meeting-ends h ∙ meeting_or-else _ _ _ a ∙ meeting_or-else _ _ _ b ∙ meeting_or-here _ _ _ e)
      by (no h) (no a) (no b) (no e) (yes f) =
          together _ _ h (inr refl) (inr refl) f
          (meeting-ends h ∙ meeting_or-else _ _ _ a ∙ meeting_or-else _ _ _ b ∙ meeting_or-else _ _ _ e ∙ meeting_or-here _ _ _ f)
      by (no h) (no a) (no b) (no e) (no f) =
          separate
          (meeting-ends h ∙ meeting_or-else _ _ _ a ∙ meeting_or-else _ _ _ b ∙ meeting_or-else _ _ _ e ∙ meeting_or-else _ _ _ f)
          nowhere
        where
          nowhere : (x : ℕ) → (c ≡ d → ⊥) → At g c x → At g d x → ⊥
          nowhere x n (inl i) (inl j) = a (i ∙ sym j)
          nowhere x n (inl i) (inr j) = b (i ∙ sym j)
          nowhere x n (inr i) (inl j) = e (i ∙ sym j)
          nowhere x n (inr i) (inr j) = f (i ∙ sym j)

  -- channels that meet are different and share a box
  pub meet-at : meet g c d ≡ true → (c ≡ d → ⊥) × ((x : ℕ) × (At g c x × At g d x))
  meet-at e = by meeting_case
    where
      by : MeetingCase → (c ≡ d → ⊥) × ((x : ℕ) × (At g c x × At g d x))
      by (together p q h i j k m) = (h, (q.at, (rw k at (end-at g c p i), end-at g d q j)))
      by (separate m n) = absurd (true≢false (sym e ∙ ap (λ (x : Meeting). x.met) m))

  -- different channels that share a box meet
  pub at_meet : (x : ℕ) → (c ≡ d → ⊥) → At g c x → At g d x → meet g c d ≡ true
  at_meet x h i j = by meeting_case
    where
      by : MeetingCase → meet g c d ≡ true
      by (together p q n k l o m) = ap (λ (x : Meeting). x.met) m
      by (separate m n) = absurd (n x h i j)

pub meet-sym : (g : Grid) (c d : ℕ) → meet g c d ≡ true → meet g d c ≡ true
meet-sym g c d e =
    let h = meet-at g c d e in
    at_meet g d c h.1.0 (λ q. h.0 (sym q)) h.1.1.1 h.1.1.0

-- "Two different channels meet in at most one box"
pub meet-once :
    {g : Grid} → Sized g → (n m x y : ℕ) → (n ≡ m → ⊥) → At g n x → At g m x → At g n y → At g m y → x ≡ y
meet-once z n m x y h (inl a) i (inl b) j = sym a ∙ b
meet-once z n m x y h (inr a) i (inr b) j = sym a ∙ b
meet-once z n m x y h (inl a) (inl i) (inr b) (inl j) = sym i ∙ j
meet-once z n m x y h (inl a) (inl i) (inr b) (inr j) = absurd (h (ends-unique z n m (a ∙ sym i) (b ∙ sym j)))
meet-once z n m x y h (inl a) (inr i) (inr b) (inl j) = absurd (omega (arith, ends-lt z n, ends-lt z m))
meet-once z n m x y h (inl a) (inr i) (inr b) (inr j) = sym i ∙ j
meet-once z n m x y h (inr a) (inl i) (inl b) (inl j) = sym i ∙ j
meet-once z n m x y h (inr a) (inl i) (inl b) (inr j) = absurd (omega (arith, ends-lt z n, ends-lt z m))
meet-once z n m x y h (inr a) (inr i) (inl b) (inl j) = absurd (h (ends-unique z n m (b ∙ sym j) (a ∙ sym i)))
meet-once z n m x y h (inr a) (inr i) (inl b) (inr j) = sym i ∙ j

-- what bounds the products and sums of a grid's sides, as the code takes them
pub ruleset count_bounds = (channel_count-le, right_count-le, row_start-le, mod-le)
