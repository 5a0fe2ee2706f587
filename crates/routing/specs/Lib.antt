pub mod Outcomes
pub mod Results
pub mod Equivalent
pub mod Remove
pub mod MarkedCases
