-- One net's part of a track assignment, 01: ticket (01 "The ticket"): the wires of the net n with the tracks ts, its tests 11, 12 and 21 (02,
-- M-105), and whether it is unrouted. Definitions only; laws: proofs/NetTracksLaws.antt. Assumes nothing.
use Rattle.std.specs.Prelude.{ℕ, zero, suc, List, Bool, true, not, ◌&&◌, ltb, eqb, get_or}
use Rattle.bounded.specs.Bounded.{every}
use Rattle.bounded.specs.Lists.{every_in}
use Rattle.grid.specs.Grid.{Wire}
use Rattle.net.specs.Net.{Net, size, channel, parent, joint_at}

-- the wire of entry i
abbrev pub wire_at : Net → List ℕ → ℕ → Wire
wire_at n ts i = record { channel = channel n i; track = get_or ts i 0 }

-- 11: every track is below w
unfoldable pub in_range : ℕ → Net → List ℕ → Bool
unfolding every
in_range w n ts = every (size n) (λ i. ltb (get_or ts i 0) w)

-- the track on the channel of entry i that its parent's track is connected to, in the box where their channels meet; `partner c d i` is the
-- track on channel d that track i on channel c is connected to
abbrev pub connected_at : (ℕ → ℕ → ℕ → ℕ) → Net → List ℕ → ℕ → ℕ
connected_at partner n ts i = partner (joint_at n i).0 (joint_at n i).1 (get_or ts (parent n i) 0)

-- 12: the tracks of entry i and its parent are connected
unfoldable pub switched_at : (ℕ → ℕ → ℕ → ℕ) → Net → List ℕ → ℕ → Bool
switched_at partner n ts zero = true
switched_at partner n ts (suc i) = eqb (get_or ts (suc i) 0) (connected_at partner n ts (suc i))

unfoldable pub switched : (ℕ → ℕ → ℕ → ℕ) → Net → List ℕ → Bool
unfolding every switched_at
switched partner n ts = every (size n) (switched_at partner n ts)

-- 21 (02, M-105): no wire is broken; `broken v` says that the wire v is
unfoldable pub whole_wires : (Wire → Bool) → Net → List ℕ → Bool
unfolding every
whole_wires broken n ts = every (size n) (λ i. not (broken (wire_at n ts i)))

-- 01: unplaced. "255 in all of a net's bytes means unplaced"
abbrev pub no_track : ℕ
no_track = 255

unfoldable pub unrouted : List ℕ → Bool
unfolding every_in
unrouted ts = every_in (λ t. eqb t no_track) ts

-- where `partial` is true, as Refit reads its old ticket, an unrouted net is not looked at
unfoldable pub skipped : Bool → List ℕ → Bool
unfolding unrouted
skipped partial ts = partial && unrouted ts
