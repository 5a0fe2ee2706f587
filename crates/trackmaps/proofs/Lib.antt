pub mod MappedLaws
pub mod HomeLaws
pub mod TrackMapsLaws
