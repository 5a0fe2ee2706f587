pub mod ByHand  -- examples, refused first where a definition is wrong
pub mod ShiftLaws
pub mod RowLaws
pub mod PairLaws
pub mod SwitchBoxLaws
pub mod GeneratorLaws
