pub mod NumbersLaws
pub mod MeaningLaws
pub mod RefusalsLaws
