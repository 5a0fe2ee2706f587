pub mod WireLaws
pub mod GridLaws
pub mod RimLaws
pub mod MeetingLaws
