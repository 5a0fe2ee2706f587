pub mod ReadingLaws
pub mod PromisesLaws
pub mod TicketLaws
pub mod RemovingLaws
pub mod FormingLaws
pub mod TwinningLaws
