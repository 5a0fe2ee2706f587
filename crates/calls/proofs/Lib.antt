pub mod EndingLaws
pub mod NumberLaws
