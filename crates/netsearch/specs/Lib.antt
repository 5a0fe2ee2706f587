pub mod HomeTrack
pub mod PlainSearch
pub mod Refit
pub mod Facts
