pub mod DefectsLaws
pub mod ListLaws
