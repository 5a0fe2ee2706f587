pub mod MeetingsLaws
