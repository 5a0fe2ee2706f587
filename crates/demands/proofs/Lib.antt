pub mod Demands  -- the page: each group by its value
pub mod NumberTheorems  -- when each number of every call comes, by meaning
-- the groups, each field by its theorem
pub mod Chip
pub mod Boxes
pub mod Rim
pub mod Demand1
pub mod Exactly
pub mod Demand2
pub mod Demand3
pub mod Remove
pub mod Standard
pub mod DeadWires
pub mod Marks
pub mod Cases
-- inputs that meet the hypotheses, on which the fields are used
pub mod DemandsCases  -- of the chip and of demands 1 to 3
pub mod RemoveCases
pub mod StandardCases
pub mod RowsCases  -- of boxes by parameters
pub mod RimCases
pub mod DeadCases
pub mod MarkCases
