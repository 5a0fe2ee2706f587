pub mod Read
pub mod Meanings
