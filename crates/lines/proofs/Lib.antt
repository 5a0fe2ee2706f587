pub mod LinesLaws
pub mod LengthLaws
pub mod LineCases
