pub mod NetLaws
pub mod NetsLaws
