pub mod Planned
pub mod Filled
pub mod Chosen
