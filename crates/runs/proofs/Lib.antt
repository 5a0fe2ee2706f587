pub mod RepeatedLaws
pub mod RanLaws
pub mod RoundsLaws
