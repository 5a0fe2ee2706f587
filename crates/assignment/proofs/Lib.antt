pub mod AssignmentLaws
pub mod WireLaws
pub mod CheckLaws
pub mod MeaningLaws
