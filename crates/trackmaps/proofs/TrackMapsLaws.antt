-- Laws of the track maps of a net (specs/TrackMaps.antt). Assumes nothing.
-- AcceptedNet: of a tree's net. root_track: the track maps of the climb from the home, step by step.
-- MapsAre: the bytes written entry by entry; the track map of the first entry, and of a later one after its parent's.
use mathlib.Core.Path.{◌≡◌, refl, sym, ◌∙◌}
use mathlib.Core.Bool.{Bool}
use mathlib.Core.List.{List}
use Prim.Native.Nat.{ℕ, ◌+◌, ◌/◌, ◌%◌, ◌≤◌, ◌<◌}
use native.Mathlib.Omega.{arith}
use lib.ListN.{length, get_or, set, length-set}
use lib.Seq.{get_or-set_same, get_or-set_other}
use borrow.Author.Count.{below_more}
use Rattle.switchbox.specs.declared.TrackMap.{TrackMap}
use Rattle.grid.specs.Grid.{meet}
use Rattle.switchbox.proofs.ShiftLaws.{map_is-same, map_is-self}
use Rattle.switchbox.specs.Facts.{MapIs, Connects}
use Rattle.net.specs.Net.{Net, size, channel, parent, entry_of}
use Rattle.net.specs.Facts.{AcceptedNet}
use Rattle.net.proofs.NetLaws.{net_of-size, net-accepted}
use Rattle.netsearch.specs.HomeTrack.{home, track_up, track}
use Rattle.netsearch.proofs.StepLaws.{track_up-step, track_up-root, track-root}
use Rattle.netsearch.proofs.TrackLaws.{track-down}
use Rattle.wires.specs.Wires.{mapped_by}
use Rattle.trackmaps.specs.TrackMaps.{root_track, MapsAre}
use Rattle.trackmaps.specs.declared.Tree.{Tree}
use Rattle.net.specs.Read.{net_read}
use Rattle.trackmaps.proofs.MappedLaws.{map_is-like, after, map_is-after}

-- ---- AcceptedNet

pub tree-accepted : (t : Tree) → AcceptedNet (meet t.switches.boxes.fabric.grid) (net_read t.record)
tree-accepted t = net-accepted _ _ (omega (arith, net_of-size t.record.z t.record.bytes.now, t.record.whole.filled)) t.differ t.parents

-- ---- root_track

-- the track map `up` takes the home track to the track of entry i, from which the climb goes on to the first entry's
pub record Climbed (partner : ℕ → ℕ → ℕ → ℕ) (w : ℕ) (n : Net) (i : ℕ) (up : TrackMap) : Type 0 where
  pub here : ℕ → ℕ
  pub maps : MapIs w up here
  pub rest : (t : ℕ) → t < w → track_up partner n (size n) i (here t) ≡ root_track partner n t

module _ (partner : ℕ → ℕ → ℕ → ℕ) (w : ℕ) (n : Net) where
  pub climbed-none : 1 ≤ w → Climbed partner w n (entry_of n (home n)) (record { minus = 0; shift = 0 })
  climbed-none z = record {
    here = λ t. t;
    maps = map_is-self w z;
    rest = λ t l. refl;
  }

  module _ (meet : ℕ → ℕ → Bool) (G : AcceptedNet meet n) where
    -- one step more, from entry i to its parent p
    pub climbed-more :
        {i p : ℕ} {a up r : TrackMap}
        → 0 < i
        → i < size n
        → p ≡ parent n i
        → Climbed partner w n i up
        → MapIs w a (partner (channel n i) (channel n p))
        → MapIs w r (after w a up)
        → Climbed partner w n p r
    climbed-more {i} {p} l h e c q v = record {
      here = λ t. partner (channel n i) (channel n p) (c.here t);
      maps = map_is-after q c.maps v;
      rest = λ t k. rw e (sym (track_up-step meet n G partner (size n) i (c.here t) (omega arith) l h) ∙ c.rest t k);
    }

    pub climbed-all : {up : TrackMap} → Climbed partner w n 0 up → MapIs w up (root_track partner n)
    climbed-all p = map_is-same p.maps (λ t l. sym (track_up-root meet n G partner (size n) (p.here t)) ∙ p.rest t l)

-- ---- MapsAre

-- the track of entry j, where the home track is t
abbrev pub entry_track : (ℕ → ℕ → ℕ → ℕ) → Net → ℕ → ℕ → ℕ
entry_track partner n j t = track partner n t (channel n j)

-- the track map of a byte
abbrev pub map_of : ℕ → TrackMap
map_of code = record { minus = code / 32; shift = code % 32 }

-- the byte is a track map that takes each track below w to what f takes it to
pub record CodeIs (w : ℕ) (code : ℕ) (f : ℕ → ℕ) : Type 0 where
  pub small : code < 64
  pub maps : MapIs w (map_of code) f

-- one byte for each entry, and those of the first k entries are written
pub record Written (partner : ℕ → ℕ → ℕ → ℕ) (w : ℕ) (n : Net) (ts : List ℕ) (k : ℕ) : Type 0 where
  pub long : length ts ≡ size n
  pub codes : (j : ℕ) → j < k → CodeIs w (get_or ts j 0) (entry_track partner n j)

module _ (partner : ℕ → ℕ → ℕ → ℕ) (w : ℕ) (n : Net) where
  pub written_none : (ts : List ℕ) → length ts ≡ size n → Written partner w n ts 0
  written_none ts e = record { long = e; codes = λ j l. absurd (omega arith) }

  pub written-more :
      {a : TrackMap} (ts : List ℕ) (k code : ℕ)
      → k < size n
      → Written partner w n ts k
      → MapIs w a (entry_track partner n k)
      → (code / 32 ≡ a.minus) × (code % 32 ≡ a.shift) × (code < 64)
      → Written partner w n (set ts k code) (k + 1)
  written-more ts k code h p q e = record {
    long = length-set ts k code ∙ p.long;
    codes = below_more (λ (j : ℕ). CodeIs w (get_or (set ts k code) j 0) (entry_track partner n j)) k
        (λ j l. rw (get_or-set_other ts k j code 0 (λ d. omega arith)) (p.codes j l))
        (rw (get_or-set_same ts k code 0 (omega (arith, p.long))) (record { small = e.2; maps = map_is-like q e.0 e.1 }));
  }

  -- what is read of a written byte
  pub written-map :
      {b : TrackMap} {ts : List ℕ} {k : ℕ} (j : ℕ)
      → j < k
      → Written partner w n ts k
      → (b.minus ≡ get_or ts j 0 / 32) × (b.shift ≡ get_or ts j 0 % 32)
      → MapIs w b (entry_track partner n j)
  written-map j l p e = map_is-like (p.codes j l).maps e.0 e.1

  pub written_all : {ts : List ℕ} {k : ℕ} → size n ≤ k → Written partner w n ts k → MapsAre partner w n ts
  unfolding mapped_by
  written_all l p = record {
    code = λ i h. (p.codes i (omega arith)).small;
    low = λ i h. (p.codes i (omega arith)).maps.low;
    same = λ i t h b. (p.codes i (omega arith)).maps.same t b;
  }

  module _ (meet : ℕ → ℕ → Bool) (G : AcceptedNet meet n) where
    pub map-root : {a : TrackMap} → MapIs w a (root_track partner n) → MapIs w a (entry_track partner n 0)
    map-root p = map_is-same p (λ t l. sym (track-root meet n G partner t))

    -- entry i after its parent p
    pub map-down :
        {i p : ℕ} {a b r : TrackMap}
        → Connects w meet partner
        → 0 < i
        → i < size n
        → p ≡ parent n i
        → MapIs w a (partner (channel n p) (channel n i))
        → MapIs w b (entry_track partner n p)
        → MapIs w r (after w a b)
        → MapIs w r (entry_track partner n i)
    map-down {i} P l h e q u v = map_is-same (map_is-after q u v) (λ t k. rw e (sym (track-down meet n G partner w P t k i l h)))
