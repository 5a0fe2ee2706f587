pub mod WrittenLaws
pub mod NetsLaws
