pub mod Canonical
pub mod Standard
pub mod Twins
pub mod Facts
