-- Home channels and home tracks, the tracks that a home track gives a net, and the order of assignments (01 "The ticket").
-- Definitions only; laws: proofs/TrackLaws.antt, proofs/OrderLaws.antt, proofs/ByteLaws.antt. Assumes nothing.
use Rattle.std.specs.Prelude.{ℕ, zero, suc, ◌+◌, ◌-◌, true, false, eqb, get_or, drop, ◌≡◌}
use mathlib.Core.List.{List, [], ◌∷◌, ◌++◌, map}
use Rattle.bounded.specs.Lists.{place, lowest}
use Rattle.backtracking.specs.Search.{AtOrBefore}
use Rattle.grid.specs.Grid.{Wire, wire}
use Rattle.net.specs.Net.{Net, channels, size, parent, joint_at, has, entry_of}
use Rattle.net.specs.Nets.{In}
use Rattle.rank.specs.Rank.{rising}

-- 01: home. "A net's home is its lowest-numbered channel."
abbrev pub home : Net → ℕ
home n = lowest (channels n)

-- "The home track fixes all its tracks": across the joints from an entry's track up to the first entry's, and from there down to any other's.
-- k bounds the number of steps: a parent stands before its child.
module _ (partner : ℕ → ℕ → ℕ → ℕ) (n : Net) where
  unfoldable pub track_up : ℕ → ℕ → ℕ → ℕ
  track_up zero i t = t
  track_up (suc k) zero t = t
  track_up (suc k) (suc i) t = track_up k (parent n (suc i)) (partner (joint_at n (suc i)).1 (joint_at n (suc i)).0 t)

  unfoldable pub track_down : ℕ → ℕ → ℕ → ℕ
  track_down zero i t = t
  track_down (suc k) zero t = t
  track_down (suc k) (suc i) t = partner (joint_at n (suc i)).0 (joint_at n (suc i)).1 (track_down k (parent n (suc i)) t)

  -- the track on the channel c, where the home track is t
  unfoldable pub track : ℕ → ℕ → ℕ
  unfolding track_up track_down place lowest
  track t c = track_down (size n) (entry_of n c) (track_up (size n) (entry_of n (home n)) t)

  -- "the wires it gives the net": those of the home track t, a wire for each of the net's channels
  abbrev pub wires_from : ℕ → List Wire
  wires_from t = map (λ c. wire c (track t c)) (channels n)

-- the byte for a net number x and one of its channels c in an assignment: "each net's bytes stand together, net after net in the sheet's order"
unfoldable pub byte_of : List Net → List ℕ → ℕ → ℕ → ℕ
unfolding place
byte_of [] b x c = 0
byte_of (n ∷ ns) b x c =
    elim (eqb n.number x) [ true ↦ get_or b (entry_of n c) 0 | false ↦ byte_of ns (drop (size n) b) x c ]

-- the home tracks of the nets ns, where `τ x c` is the track of net number x on channel c
abbrev pub homes : (ℕ → ℕ → ℕ) → List Net → List ℕ
homes τ ns = map (λ (n : Net). τ n.number (home n)) ns

-- `τ` and `σ` give the same track for each net number and channel of ns
abbrev pub SameTracks : List Net → (ℕ → ℕ → ℕ) → (ℕ → ℕ → ℕ) → Type 0
SameTracks ns τ σ = (n : Net) → In n ns → (c : ℕ) → has n c ≡ true → τ n.number c ≡ σ n.number c

-- "Tickets are ordered by home tracks, nets in rising net number; the first difference decides, smaller first.": a is b or before it
abbrev pub NotAfter : List Net → List ℕ → List ℕ → Type 0
NotAfter ns a b = AtOrBefore (homes (byte_of ns a) (rising ns)) (homes (byte_of ns b) (rising ns))

-- the home track of the net number x, where the nets ns have the home tracks hs
unfoldable pub home_track_of : List Net → List ℕ → ℕ → ℕ
home_track_of [] hs x = 0
home_track_of (n ∷ ns) [] x = 0
home_track_of (n ∷ ns) (t ∷ hs) x = elim (eqb n.number x) [ true ↦ t | false ↦ home_track_of ns hs x ]

module _ (partner : ℕ → ℕ → ℕ → ℕ) where
  -- the assignment in which the net number x has the home track f x
  unfoldable pub bytes_from : List Net → (ℕ → ℕ) → List ℕ
  unfolding track
  bytes_from [] f = []
  bytes_from (n ∷ ns) f = map (track partner n (f n.number)) (channels n) ++ bytes_from ns f

  -- the assignment in which the nets, in rising net number, have the home tracks hs
  unfoldable pub assignment_from : List Net → List ℕ → List ℕ
  unfolding bytes_from home_track_of rising
  assignment_from ns hs = bytes_from ns (home_track_of (rising ns) hs)
