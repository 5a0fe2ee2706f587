pub mod PartLaws  -- a part that is written from its front to its end
pub mod MarkLaws  -- the marks of a net's entries while its canonical tree is written
pub mod GrowthLaws  -- the entry that is written next, and its bytes
pub mod PassLaws  -- a pass over the nets in rising net number
pub mod LeastLaws  -- the least number of a range that passes a test
