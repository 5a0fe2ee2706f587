-- Laws of the switch boxes (specs/SwitchBox.antt), over all widths and all rows. Assumes nothing.
-- inverse: that of an undone function. switch_track: the table's, within range, undone from the other end. connected: on the rim, in inner
-- boxes, undone over channels that meet.
use mathlib.Core.Path.{◌≡◌, refl, sym, subst, ap, ◌∙◌}
use mathlib.Core.Bool.{Bool, true, false}
use mathlib.Core.List.{List}
use Prim.Native.Nat.{ℕ, zero, suc, ◌≤◌, ◌<◌}
use native.Mathlib.Omega.{arith}
use native.Mathlib.Decide.{ℕ_discrete}
use lib.Dec.{ltb}
use borrow.Author.Tests.{ltb-true, lt-ltb, le-ltb, eq-eqb, ne_eqb}
use Rattle.grid.specs.declared.Grid.{Grid}
use Rattle.grid.specs.Grid.{Meeting, meeting, meet, At, channels_at, on_rim}
use Rattle.grid.specs.Facts.{Sized, HasEnd}
use Rattle.grid.proofs.GridLaws.{meet-sym}
use Rattle.grid.proofs.MeetingLaws.{meeting-at, meeting-box, meeting-sides-lt, meeting-sym}
use Rattle.switchbox.specs.declared.Fabric.{Fabric}
use Rattle.switchbox.specs.SwitchBox.{rows_kind, column_count, rows_allowed, shifted, column, equal_track, cell, inverse, switch_track, connected}
use Rattle.switchbox.specs.Generator.{pair_at, table_from, table_track, rows_of_kind}
use Rattle.switchbox.specs.Facts.{AllowedRows, Allowed, Remainder, Connects}
use Rattle.switchbox.proofs.ShiftLaws.{shifted-lt, shifted-inverse}
use Rattle.switchbox.proofs.RowLaws.{formula-shifted, own-cell, cell_row, no_cell, row-remainder}
use Rattle.switchbox.proofs.PairLaws.{Reading, there, back, self, reading, pair_at-there, pair_at-self, pair_at-opposite, table_track-pair}

-- ---- inverse

-- the inverse of an undone function is its undoing
pub inverse-unique :
    (n : ℕ) (f g : ℕ → ℕ) (i : ℕ) → ((k : ℕ) → k < n → g (f k) ≡ k) → f (g i) ≡ i → g i < n → inverse n f i ≡ g i
unfolding inverse
inverse-unique zero f g i u v l = absurd (omega arith)
inverse-unique (suc n) f g i u v l = at (ℕ_discrete (f n) i) (inverse-unique n f g i (λ k b. u k (omega arith)) v)
  where
    less : Dec (g i ≡ n) → (g i ≡ n → ⊥) → g i < n
    less (yes p) q = absurd (q p)
    less (no p) q = omega arith

    at : Dec (f n ≡ i) → (g i < n → inverse n f i ≡ g i) → inverse (suc n) f i ≡ g i
    at (yes e) rec = rw (eq-eqb (f n) i e, inverse) (sym (u n (omega arith)) ∙ ap g e)
    at (no e) rec = rw (ne_eqb (f n) i e, inverse) (rec (less (ℕ_discrete (g i) n) (λ p. e (sym (ap f p) ∙ v))))

-- ---- switch_track: for every kind, at every width

module _ (kind : ℕ) (rows : List ℕ) (a : AllowedRows kind rows) where
  abbrev own : List ℕ
  own = rows_of_kind kind rows

  -- the track map of a pair
  abbrev map_at : ℕ → ℕ → ℕ → ℕ → ℕ
  map_at from to w i = shifted (pair_at own from to).0 (pair_at own from to).1 w i

  module _ (w from to i : ℕ) (h : from < 4) (k : to < 4) (l : i < w) where
    map_at-lt : map_at from to w i < w
    map_at-lt = shifted-lt (pair_at own from to).0 (pair_at own from to).1 w i l

    map_at-inverse : map_at to from w (map_at from to w i) ≡ i
    map_at-inverse =
        let o = pair_at-opposite own a.1 from to h k in
        shifted-inverse (pair_at own from to) (pair_at own to from) w i o.0 o.1 l

  cell-pair : (w from to i : ℕ) → ltb (column from to) column_count ≡ true → i < w → cell kind rows (column from to) w i ≡ map_at from to w i
  cell-pair w from to i e l =
      cell_row kind rows a.0 (column from to) w i (ltb-true _ column_count e) l
      ∙ sym (ap (λ (p : ℕ × ℕ). shifted p.0 p.1 w i) (pair_at-there own from to e))

  module _ (w from to i : ℕ) (h : from < 4) (k : to < 4) (l : i < w) where
    pub switch_track-map : switch_track kind rows w from to i ≡ map_at from to w i
    unfolding switch_track
    switch_track-map = at (reading from to h k)
      where
        at : Reading from to → switch_track kind rows w from to i ≡ map_at from to w i
        at (there e f) = rw (e, switch_track) (cell-pair w from to i e l)
        at (back e f) =
            rw (e, switch_track)
            (inverse-unique w (cell kind rows (column to from) w) (map_at from to w) i
            (λ j b. ap (map_at from to w) (cell-pair w to from j f b) ∙ map_at-inverse w to from j k h b)
            (cell-pair w to from _ f (map_at-lt w from to i h k l) ∙ map_at-inverse w from to i h k l)
            (map_at-lt w from to i h k l))
        at (self e q f) =
            let n : cell kind rows (column to from) w ≡ equal_track w = ap (λ (k : ℕ). cell kind rows k w) q ∙ ap (λ (g : ℕ → ℕ → ℕ). g w) (no_cell kind rows a.0) in
            rw (e, switch_track)
            (ap (λ (g : ℕ → ℕ). inverse w g i) n
            ∙ inverse-unique w (equal_track w) (λ k. k) i (λ k b. refl) refl l
            ∙ formula-shifted 0 w i l
            ∙ sym (ap (λ (p : ℕ × ℕ). shifted p.0 p.1 w i) (pair_at-self own from to e f)))

    -- the generator's table gives the partners of every kind
    pub switch_track-table : table_track (table_from own) w from to i ≡ switch_track kind rows w from to i
    switch_track-table = table_track-pair own from to h k w i ∙ sym switch_track-map

    pub switch_track-lt : switch_track kind rows w from to i < w
    switch_track-lt = subst (λ (x : ℕ). x < w) (sym switch_track-map) (map_at-lt w from to i h k l)

  pub switch_track-inverse : (w from to i : ℕ) → from < 4 → to < 4 → i < w
      → switch_track kind rows w to from (switch_track kind rows w from to i) ≡ i
  switch_track-inverse w from to i h k l =
      switch_track-map w to from _ k h (switch_track-lt w from to i h k l)
      ∙ ap (map_at to from w) (switch_track-map w from to i h k l)
      ∙ map_at-inverse w from to i h k l

-- "The partner of track i on a pair's first side is (shift plus or minus i) mod W", of the pair of a column
pub switch-remainder : (rows : List ℕ) (w from to i : ℕ) → rows_allowed rows ≡ true → column from to < column_count → i < w
    → Remainder rows (column from to) w i (switch_track rows_kind rows w from to i)
unfolding switch_track
switch-remainder rows w from to i a h l =
    rw (lt-ltb (column from to) column_count h, ap (λ (f : ℕ → ℕ → ℕ). f w i) (own-cell rows (column from to) h), switch_track)
    (row-remainder rows (column from to) w i a h l)

-- ---- connected

module _ (f : Fabric) (w c d : ℕ) where
  -- "a box with fewer than four channels joins equal track numbers, for every kind including 3"
  pub connected-rim : (i : ℕ) → on_rim f.grid (meeting f.grid c d).at ≡ true → connected f w c d i ≡ i
  unfolding connected
  connected-rim i e = rw (e, connected)

  -- "The box table holds for inner boxes only."
  pub connected-inner :
      (i : ℕ)
      → on_rim f.grid (meeting f.grid c d).at ≡ false
      → connected f w c d i ≡ switch_track f.kind f.rows w (meeting f.grid c d).from (meeting f.grid c d).to i
  unfolding connected
  connected-inner i e = rw (e, connected)

-- the same by the ends of the channels: both are at the box x
module _ (f : Fabric) (z : Sized f.grid) (w c d x : ℕ) (h : c ≡ d → ⊥) where
  pub rim-straight : (i : ℕ) → At f.grid c x → At f.grid d x → channels_at f.grid x < 4 → connected f w c d i ≡ i
  unfolding on_rim
  rim-straight i p q l =
      connected-rim f w c d i (ap (on_rim f.grid) (meeting-box z c d x h p q) ∙ lt-ltb (channels_at f.grid x) 4 l)

  pub inner-table :
      (s t i : ℕ)
      → HasEnd f.grid c (record { at = x; side = s })
      → HasEnd f.grid d (record { at = x; side = t })
      → 4 ≤ channels_at f.grid x
      → connected f w c d i ≡ switch_track f.kind f.rows w s t i
  unfolding on_rim
  inner-table s t i p q l =
      let m = meeting-at z c d x s t h p q in
      connected-inner f w c d i (ap (λ (m : Meeting). on_rim f.grid m.at) m ∙ le-ltb (channels_at f.grid x) 4 l)
      ∙ ap (λ (m : Meeting). switch_track f.kind f.rows w m.from m.to i) m

-- in a box on the rim, or in an inner one: seen alike from both ends
data Across (g : Grid) (c d : ℕ) : Type 0 where
  rim : on_rim g (meeting g c d).at ≡ true → on_rim g (meeting g d c).at ≡ true → Across g c d
  inside : on_rim g (meeting g c d).at ≡ false → on_rim g (meeting g d c).at ≡ false → Across g c d

across : {g : Grid} → Sized g → (c d : ℕ) → meet g c d ≡ true → Across g c d
across {g} z c d e = by (on_rim g (meeting g c d).at) refl
  where
    same : on_rim g (meeting g d c).at ≡ on_rim g (meeting g c d).at
    same = ap (λ (m : Meeting). on_rim g m.at) (meeting-sym z c d e)

    by : (b : Bool) → on_rim g (meeting g c d).at ≡ b → Across g c d
    by true h = rim h (same ∙ h)
    by false h = inside h (same ∙ h)

-- tracks are connected both ways
pub fabric-connects : {f : Fabric} → Allowed f → (w : ℕ) → Connects w (meet f.grid) (connected f w)
fabric-connects {f} ok w = record {
  either = λ c d e. meet-sym f.grid c d e;
  within = λ c d i e l. below c d i e l (across ok.sized c d e);
  undone = λ c d i e l. back c d i e l (across ok.sized c d e);
}
  where
    -- by the table, at the sides of a meeting
    track : Meeting → ℕ → ℕ
    track m i = switch_track f.kind f.rows w m.from m.to i

    below : (c d i : ℕ) → meet f.grid c d ≡ true → i < w → Across f.grid c d → connected f w c d i < w
    below c d i e l (rim a b) = subst (λ (x : ℕ). x < w) (sym (connected-rim f w c d i a)) l
    below c d i e l (inside a b) =
        let s = meeting-sides-lt ok.sized c d e in
        subst (λ (x : ℕ). x < w) (sym (connected-inner f w c d i a)) (switch_track-lt f.kind f.rows ok.rows w _ _ i s.0 s.1 l)

    back : (c d i : ℕ) → meet f.grid c d ≡ true → i < w → Across f.grid c d → connected f w d c (connected f w c d i) ≡ i
    back c d i e l (rim a b) = connected-rim f w d c _ b ∙ connected-rim f w c d i a
    back c d i e l (inside a b) =
        let s = meeting-sides-lt ok.sized c d e in
        connected-inner f w d c _ b
        ∙ ap (track (meeting f.grid d c)) (connected-inner f w c d i a)
        ∙ ap (λ (m : Meeting). track m (track (meeting f.grid c d) i)) (meeting-sym ok.sized c d e)
        ∙ switch_track-inverse f.kind f.rows ok.rows w _ _ i s.0 s.1 l

-- "(within range, undone from the other end)"
pub partners-hold : (f : Fabric) → Allowed f → (w c d i : ℕ) → meet f.grid c d ≡ true → i < w
    → (connected f w c d i < w) × (connected f w d c (connected f w c d i) ≡ i)
partners-hold f ok w c d i e l = let k = fabric-connects ok w in (k.within c d i e l, k.undone c d i e l)
