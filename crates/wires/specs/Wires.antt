-- The tables of a search's nets, the wires that a home track gives a net by them, and the marks of the wires held. Definitions only;
-- laws: proofs/TablesLaws.antt, proofs/WiresLaws.antt, proofs/LaidLaws.antt. Assumes nothing.
use Rattle.std.specs.Prelude.{◌≡◌, ℕ, zero, suc, ◌+◌, ◌-◌, ◌*◌, ◌/◌, ◌%◌, ◌≤◌, ◌<◌, List, Bool, true, not, ◌&&◌, length, get_or}
use Rattle.std.proofs.Math.Dec.{eqb}
use Rattle.bounded.specs.Bounded.{every, any_below}
use Rattle.marks.specs.Marks.{held_at, holding}
use Rattle.switchbox.specs.Facts.{mapped}

-- Net k has the entries start[k] to start[k + 1]. An entry has its channel and its track map from the home track at the width: the shift,
-- plus 32 for minus.
pub record Tables : Type 0 where
  pub start : List ℕ
  pub chan : List ℕ
  pub maps : List ℕ
  pub width : ℕ

abbrev pub tables_of : List ℕ → List ℕ → List ℕ → ℕ → Tables
tables_of start chan maps w = record { start = start; chan = chan; maps = maps; width = w }

-- the track that the track map takes t to, at the width w
unfoldable pub mapped_by : ℕ → ℕ → ℕ → ℕ
unfolding mapped
mapped_by w code t = mapped w (code / 32) (code % 32) t

-- a track map at the width w, and a track for it
pub record MapFits (w code t : ℕ) : Type 0 where
  pub known : code < 64
  pub shift : code % 32 < w
  pub width : w ≤ 32
  pub track : t < w

-- a table of all track maps at the width w: place 64 · t + code has the track that the track map takes t to; and its first n places
pub record MapTableTo (w n : ℕ) (tracks : List ℕ) : Type 0 where
  pub at : (i : ℕ) → i < n → i % 32 < w → get_or tracks i 0 ≡ mapped_by w (i % 64) (i / 64)

abbrev pub MapTable : ℕ → List ℕ → Type 0
MapTable w tracks = MapTableTo w (64 * w) tracks

module _ (p : Tables) where
  abbrev pub first : ℕ → ℕ
  first k = get_or p.start k 0

  -- how many entries net k has
  abbrev pub size_of : ℕ → ℕ
  size_of k = first (k + 1) - first k

  -- the channel of entry i of net k, and its track where the home track is t
  abbrev pub chan_of : ℕ → ℕ → ℕ
  chan_of k i = get_or p.chan (first k + i) 0

  unfoldable pub track_of : ℕ → ℕ → ℕ → ℕ
  unfolding mapped_by
  track_of k i t = mapped_by p.width (get_or p.maps (first k + i) 0) t

  -- net k with the home track t holds track x of channel c
  unfoldable pub holds : ℕ → ℕ → ℕ → ℕ → Bool
  unfolding any_below track_of
  holds k t c x = any_below (size_of k) (λ i. eqb (chan_of k i) c && eqb (track_of k i t) x)

-- the entries of net k can be read, its channels differ, its track maps are track maps at the width
pub record NetFits (p : Tables) (k : ℕ) : Type 0 where
  pub rises : first p k ≤ first p (k + 1)
  pub within : first p (k + 1) ≤ 2048
  pub channels : (i : ℕ) → i < size_of p k → chan_of p k i < 480
  pub differ : (i j : ℕ) → i < size_of p k → j < size_of p k → chan_of p k i ≡ chan_of p k j → i ≡ j
  pub maps : (i : ℕ) → i < size_of p k → (get_or p.maps (first p k + i) 0 < 64) × (get_or p.maps (first p k + i) 0 % 32 < p.width)

-- net k can be tried with the home track t
pub record Triable (p : Tables) (k t : ℕ) : Type 0 where
  pub net : NetFits p k
  pub count : k < 64
  pub track : t < p.width

-- none of the wires that the home track t gives net k is marked
unfoldable pub free_in : Tables → List ℕ → ℕ → ℕ → Bool
unfolding every held_at track_of
free_in p taken k t = every (size_of p k) (λ i. not (held_at taken (chan_of p k i) (track_of p k i t)))

-- the marks with the first n wires of net k marked too, and with all of them
unfoldable pub laid_to : Tables → List ℕ → ℕ → ℕ → ℕ → List ℕ
unfolding holding track_of
laid_to p taken k t zero = taken
laid_to p taken k t (suc i) = holding (laid_to p taken k t i) (chan_of p k i) (track_of p k i t)

abbrev pub laid : Tables → List ℕ → ℕ → ℕ → List ℕ
laid p taken k t = laid_to p taken k t (size_of p k)

-- the marks are those before and the wires that the home track t gives net k, which were free
pub record LaidOn (p : Tables) (before taken : List ℕ) (k t : ℕ) : Type 0 where
  pub long : length before ≡ 480
  pub is_free : free_in p before k t ≡ true
  pub marks : taken ≡ laid p before k t
