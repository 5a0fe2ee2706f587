pub mod Board
pub mod Assignment
pub mod Check
pub mod Meanings
pub mod Facts
