-- The laws, by subject.

-- nets, tracks and bytes
pub mod TrackLaws  -- a net's tracks from its home track, and its wires
pub mod PlaceLaws  -- home tracks and held wires by the places of nets
pub mod ByteLaws  -- the bytes of an assignment
pub mod StepLaws  -- laws in the shape of code
pub mod SoundLaws  -- valid home tracks are legal assignments
pub mod CapacityLaws  -- overloaded channels have none
pub mod LegalLaws  -- legal by places and legal by numbers and channels
pub mod FixedLaws  -- the home tracks fix an assignment
-- the runs
pub mod SearchByLaws  -- with any test of a track
pub mod MeaningLaws  -- what the runs find is legal, first, and moves the fewest
-- relisted nets, broken wires that agree
pub mod CarryLaws  -- legal tracks carry over
pub mod RelistLaws  -- the same tests, runs and bytes
pub mod RoutedLaws  -- the nets of an assignment that are looked at
pub mod RefitLaws  -- the same rounds and moves
pub mod OldTestLaws  -- the same number of an assignment, Check's or Refit's old one
pub mod DeadLaws  -- broken wires that agree below a width
