-- The loops of `lay`, which goes up the entries of a net, and of `unlay`, which goes down (specs/Wires.antt). Assumes nothing.
-- LaidUpTo: where they begin and end, what a pass asks of its entry, and what it leaves.
use mathlib.Core.Path.{◌≡◌, refl, sym, ap, ◌∙◌}
use mathlib.Core.Bool.{true, false}
use mathlib.Core.List.{List}
use Prim.Native.Nat.{ℕ, ◌+◌, ◌-◌, ◌≤◌, ◌<◌}
use native.Mathlib.Omega.{arith}
use native.Mathlib.Nat.{sub_self}
use lib.ListN.{length, get_or}
use Rattle.marks.specs.Marks.{held_at, holding, releasing}
use Rattle.wires.specs.Wires.{Tables, mapped_by, MapFits, first, chan_of, track_of, Triable, free_in, laid_to, laid, LaidOn}
use Rattle.wires.proofs.TablesLaws.{entry-fits, entry-wire}
use Rattle.wires.proofs.WiresLaws.{laid_to-none, laid_to-more, laid_to-free, laid_to-held, laid_to-back}

-- the marks `taken` are those before and the wires of the entries of net k before entry e of the tables
pub record LaidUpTo (p : Tables) (before taken : List ℕ) (k t e : ℕ) : Type 0 where
  pub same : taken ≡ laid_to p before k t (e - first p k)

-- from no wire of the net to all of them, and back; all of them is `LaidOn`
pub up_to-none : {p : Tables} {taken : List ℕ} {k t : ℕ} → LaidUpTo p taken taken k t (first p k)
up_to-none = record { same = rw sub_self (sym (laid_to-none _ _ _ _)) }

module _ {p : Tables} {before taken : List ℕ} {k t e : ℕ} (u : LaidUpTo p before taken k t e) where
  pub all_laid : e ≡ first p (k + 1) → taken ≡ laid p before k t
  all_laid q = u.same ∙ ap (λ (x : ℕ). laid_to p before k t (x - first p k)) q

  pub none-laid : e ≤ first p k → taken ≡ before
  none-laid h =
      let q : ◌≡◌ {A = ℕ} (e - first p k) 0 = omega arith in
      u.same ∙ ap (laid_to p before k t) q ∙ laid_to-none p before k t

-- a pass at entry e, where x is the track looked up
module _
    {p : Tables} {k t e : ℕ} (able : Triable p k t) (narrow : p.width ≤ 32) (from : first p k ≤ e) (to : e < first p (k + 1)) where
  abbrev place : ℕ
  place = e - first p k

  pub track-asked : MapFits p.width (get_or p.maps e 0) t
  track-asked = (entry-fits able narrow e from to).map

  pub channel-lt : get_or p.chan e 0 < 480
  channel-lt = (entry-fits able narrow e from to).chan-lt

  module _
      {x : ℕ} (found : (x ≡ mapped_by p.width (get_or p.maps e 0) t) × (x < p.width))
      {before taken : List ℕ} (long : length before ≡ 480) (is_free : free_in p before k t ≡ true) where
    -- what is said of the marks and of the wire looked up is said of the first j wires laid and of the net's wire
    at-wire : {A : Type 0} (f : List ℕ → ℕ → ℕ → A) (j d : ℕ) → LaidUpTo p before taken k t d → d - first p k ≡ j
        → f taken (get_or p.chan e 0) x ≡ f (laid_to p before k t j) (chan_of p k place) (track_of p k place t)
    at-wire f j d u q =
        ap (λ (m : List ℕ). f m (get_or p.chan e 0) x) (u.same ∙ ap (laid_to p before k t) q)
        ∙ entry-wire (f (laid_to p before k t j)) (entry-fits able narrow e from to) x found.0

    -- what `hold` asks, and what it leaves
    module _ (u : LaidUpTo p before taken k t e) where
      pub hold-asked : (get_or p.chan e 0 < 480) × (x < 32) × (held_at taken (get_or p.chan e 0) x ≡ false)
      hold-asked = (
        channel-lt,
        omega (arith, narrow, found.1),
        at-wire held_at place e u refl ∙ laid_to-free p before k t able.net long is_free place (omega arith),
      )

      pub up_to-more : {m : List ℕ} → m ≡ holding taken (get_or p.chan e 0) x → LaidUpTo p before m k t (e + 1)
      up_to-more h =
          let q : place + 1 ≡ e + 1 - first p k = omega arith in
          record { same = h ∙ at-wire holding place e u refl ∙ sym (laid_to-more p before k t place) ∙ ap (laid_to p before k t) q }

    -- what `release` asks, and what it leaves
    module _ {d : ℕ} (last : d ≡ e + 1) (u : LaidUpTo p before taken k t d) where
      past : d - first p k ≡ place + 1
      past = omega arith

      held-there : (get_or p.chan e 0 < 480) × (x < 32) × (held_at taken (get_or p.chan e 0) x ≡ true)
      held-there = (
        channel-lt,
        omega (arith, narrow, found.1),
        at-wire held_at (place + 1) d u past ∙ laid_to-held p before k t able.net long is_free place (omega arith),
      )

      less-there : {m : List ℕ} → m ≡ releasing taken (get_or p.chan e 0) x → LaidUpTo p before m k t e
      less-there h =
          record { same = h ∙ at-wire releasing (place + 1) d u past ∙ laid_to-back p before k t able.net long is_free place (omega arith) }

-- the same going down: a pass begins with the wires of the entries before entry d laid, and is at the entry before it
module _
    {p : Tables} {k t d : ℕ} (able : Triable p k t) (narrow : p.width ≤ 32) (more : first p k < d) (to : d ≤ first p (k + 1)) where
  low : first p k ≤ d - 1
  low = omega arith

  high : d - 1 < first p (k + 1)
  high = omega arith

  last : d ≡ d - 1 + 1
  last = omega arith

  pub track-asked_down : MapFits p.width (get_or p.maps (d - 1) 0) t
  track-asked_down = track-asked able narrow low high

  module _
      {x : ℕ} (found : (x ≡ mapped_by p.width (get_or p.maps (d - 1) 0) t) × (x < p.width))
      {before taken entered : List ℕ} (on : LaidOn p before entered k t) (u : LaidUpTo p before taken k t d) where
    pub release-asked : (get_or p.chan (d - 1) 0 < 480) × (x < 32) × (held_at taken (get_or p.chan (d - 1) 0) x ≡ true)
    release-asked = held-there able narrow low high found on.long on.is_free last u

    pub up_to-less : {m : List ℕ} → m ≡ releasing taken (get_or p.chan (d - 1) 0) x → LaidUpTo p before m k t (d - 1)
    up_to-less = less-there able narrow low high found on.long on.is_free last u
