pub mod Net
pub mod Nets
pub mod Facts
pub mod Props
pub mod Read
