pub mod Encoding
pub mod Facts
