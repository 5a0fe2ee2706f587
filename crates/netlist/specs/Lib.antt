pub mod Netlist
pub mod Meanings
pub mod Facts
