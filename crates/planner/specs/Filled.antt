-- What one net writes into the tables of a sheet. Definitions only; laws: proofs/FilledLaws.antt, proofs/DensityLaws.antt,
-- proofs/MapsFromLaws.antt. Assumes nothing.
use Rattle.std.specs.Prelude.{◌≡◌, ℕ, ◌+◌, ◌<◌, List, eqb, length, get_or, take, drop}
use Rattle.bounded.specs.Bounded.{any_below}
use Rattle.net.specs.Net.{Net, size, channel}
use Rattle.rank.specs.Rank.{one_if}
use Rattle.trackmaps.specs.TrackMaps.{MapsAre}

-- the table `after` has the first i channels of n from e on, and below e what the table `before` has
pub record ChannelsFrom (n : Net) (i e : ℕ) (before after : List ℕ) : Type 0 where
  pub chans : (j : ℕ) → j < i → get_or after (e + j) 0 ≡ channel n j
  pub kept : (x : ℕ) → x < e → get_or after x 0 ≡ get_or before x 0

-- no channel of n stands twice
abbrev pub ChannelsOnce : Net → Type 0
ChannelsOnce n = (i j : ℕ) → i < size n → j < size n → channel n i ≡ channel n j → i ≡ j

-- every channel of n is below count
abbrev pub ChannelsBelow : ℕ → Net → Type 0
ChannelsBelow count n = (i : ℕ) → i < size n → channel n i < count

-- for each of the 480 channels a load, below 64, and a net that can be counted in them
pub record Countable (n : Net) (load : List ℕ) : Type 0 where
  pub whole : length load ≡ 480
  pub small : (c : ℕ) → c < 480 → get_or load c 0 < 64
  pub once : ChannelsOnce n
  pub below : ChannelsBelow 480 n

-- one more on each of the first i channels of n: from the loads `before` to the loads `after`
pub record OneMore (n : Net) (i : ℕ) (before after : List ℕ) : Type 0 where
  pub loads : (c : ℕ) → c < 480 → get_or after c 0 ≡ get_or before c 0 + one_if (any_below i (λ j. eqb (channel n j) c))

-- the table `after` has the track maps of n from e on, and below e what the table `before` has
pub record MapsFrom (partner : ℕ → ℕ → ℕ → ℕ) (w : ℕ) (n : Net) (e : ℕ) (before after : List ℕ) : Type 0 where
  pub maps : MapsAre partner w n (take (size n) (drop e after))
  pub kept : (x : ℕ) → x < e → get_or after x 0 ≡ get_or before x 0
