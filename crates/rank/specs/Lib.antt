pub mod Rank
pub mod Facts
