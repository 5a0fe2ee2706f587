-- The page that names the groups of promises, each a record in a file of its own; in each the part that the documents ask for stands before
-- what is ours.
pub mod Demands
pub mod SheetCalls  -- every call that reads a sheet, in one list
pub mod Chip
pub mod Boxes
pub mod Rim
pub mod Demand1
pub mod Exactly  -- when each number comes, by meaning; Read and Record
pub mod Demand2
pub mod Demand3
pub mod Remove
pub mod Standard
pub mod DeadWires
pub mod Marks
pub mod Cases
