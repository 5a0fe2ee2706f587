pub mod PlacesLaws
pub mod FilledLaws
pub mod DensityLaws
pub mod MapsFromLaws
pub mod PlannedLaws
pub mod OldHomeLaws
pub mod FitsLaws
pub mod RunLaws
