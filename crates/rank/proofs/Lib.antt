pub mod OrderLaws
pub mod TallyLaws
pub mod RankLaws
