-- The track maps that take a net's home track to its tracks (01 "The ticket": "The home track fixes all its tracks").
-- Definitions only; laws: proofs/TrackMapsLaws.antt. Assumes nothing.
use Rattle.std.specs.Prelude.{◌≡◌, ℕ, ◌%◌, ◌≤◌, ◌<◌, List, get_or}
use Rattle.switchbox.specs.declared.TrackMap.{TrackMap}
use Rattle.net.specs.Net.{Net, size, channel, entry_of}
use Rattle.netsearch.specs.HomeTrack.{home, track_up, track}
use Rattle.wires.specs.Wires.{mapped_by}

-- a track map at the width w
pub record MapAt (w : ℕ) (a : TrackMap) : Type 0 where
  pub sign : a.minus ≤ 1
  pub low : a.shift < w

-- the track of the first entry, where the home track is t
abbrev pub root_track : (ℕ → ℕ → ℕ → ℕ) → Net → ℕ → ℕ
root_track partner n t = track_up partner n (size n) (entry_of n (home n)) t

-- the track maps ts, entry by entry, take each home track below w to the net's tracks
pub record MapsAre (partner : ℕ → ℕ → ℕ → ℕ) (w : ℕ) (n : Net) (ts : List ℕ) : Type 0 where
  pub code : (i : ℕ) → i < size n → get_or ts i 0 < 64
  pub low : (i : ℕ) → i < size n → get_or ts i 0 % 32 < w
  pub same : (i t : ℕ) → i < size n → t < w → mapped_by w (get_or ts i 0) t ≡ track partner n t (channel n i)
