pub mod NetTracksLaws
