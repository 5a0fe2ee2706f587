pub mod NetTracks
pub mod Facts
