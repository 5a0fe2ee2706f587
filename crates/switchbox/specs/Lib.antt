pub mod SwitchBox
pub mod Generator
pub mod Facts
