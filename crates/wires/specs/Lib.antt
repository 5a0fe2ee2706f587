pub mod Wires
pub mod NetsOf
