-- The laws and theorems, by subject.

-- sheets
pub mod LegalLaws  -- legal by places and legal by numbers and channels
pub mod FixedLaws  -- the home tracks fix an assignment
pub mod FoundLaws  -- what the runs of an accepted sheet find
-- equivalent sheets
pub mod EquivalentLaws  -- the runs and numbers of two calls
-- answers
pub mod OverwriteLaws  -- an output whose first bytes are written
pub mod OutcomeLaws  -- of any run and any number before it
pub mod RefusalLaws  -- the numbers before any trial
pub mod CallLaws  -- what 0 and 15 say of a call's run
pub mod LastWidthLaws  -- the width in use
pub mod RemoveLaws  -- what Remove gives and writes
-- the theorems; all of them on one page: crate demands
pub mod ChannelTheorems
pub mod RimTheorems
pub mod BudgetTheorems
pub mod FirstTheorems
pub mod UnroutableTheorems
pub mod ListingTheorems  -- sheets that list the same, whatever the marks
pub mod WidthTheorems
pub mod RelistTheorems
pub mod RemoveTheorems
pub mod WayBackTheorems
pub mod DeadTheorems
pub mod MarkedCasesLaws  -- the paper's own cases
pub mod Example
pub mod ExampleCases
pub mod DeadExamples  -- sheets with a list of dead wires
