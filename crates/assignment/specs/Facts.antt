-- What the code's contracts and the laws say of track assignments beside the paper's definitions. Definitions only; laws:
-- proofs/AssignmentLaws.antt. Assumes nothing.
use Rattle.std.specs.Prelude.{ℕ, List, Bool, not}
use Rattle.numbers.specs.Numbers.{first_number}
use Rattle.net.specs.Net.{Net}
use Rattle.nettracks.specs.declared.TrackTest.{TrackTest}
use Rattle.nettracks.specs.Facts.{tracks_pass}
use Rattle.assignment.specs.Board.{Board}
use Rattle.assignment.specs.Assignment.{every_net, wrong_size, track_out_of_range, not_switched, broken_wire, wire_conflict, ticket_conditions}

-- some net that is looked at does not pass the test of its tracks: 11, 12 or 21 applies
unfoldable pub bad_tracks : TrackTest → Bool → Board → ℕ → List Net → List ℕ → Bool
unfolding every_net tracks_pass
bad_tracks test partial board w ns b = not (every_net partial (tracks_pass test (board.partner w) board.broken w) ns b)

-- the first of the numbers 10 to 13 and 21 that applies; 0 where none does
unfoldable pub assignment_number : Bool → Board → ℕ → List Net → List ℕ → ℕ
unfolding first_number wrong_size track_out_of_range not_switched broken_wire wire_conflict
assignment_number partial board w ns b = first_number (ticket_conditions partial board w ns b)
