pub mod Defects
pub mod Facts
