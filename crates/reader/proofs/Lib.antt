pub mod ReadLaws
pub mod MeaningLaws
