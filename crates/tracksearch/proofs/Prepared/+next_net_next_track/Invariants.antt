-- The loop's invariant is `Tried`: the search from the state on with which next_track is entered is that of its tracks from t on, with what
-- is left of the budget; and `Restored`: between two tracks the marks and the home tracks are those of that state again.
use Prim.Native.Nat.{◌+◌, ◌-◌, ◌*◌}
use Rattle.tracksearch.proofs.StateLaws.{Restored}
use Rattle.tracksearch.proofs.TriedLaws.{Tried}
use Rattle.tracksearch.proofs.Prepared.+next_net_next_track.Given as goal

-- "remaining net-track pairs fall": twice their number, and one more where the net is still to be looked at
abbrev pub decreases-next_net : goal.decreases-next_net
decreases-next_net l = 2 * ((l.self.now.count - l.m.placed) * l.self.now.nets.width) + 1

abbrev pub decreases-next_track : goal.decreases-next_track
decreases-next_track l = 2 * ((l.self.now.count - l.m.placed) * l.self.now.nets.width)

abbrev pub invariant-next_track-loop-t : goal.invariant-next_track-loop-t
invariant-next_track-loop-t l = Restored l.fn.m l.m × Tried l.self l.used l.fn.m l.t l.spent
