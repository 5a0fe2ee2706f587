pub mod Grid
pub mod Facts
