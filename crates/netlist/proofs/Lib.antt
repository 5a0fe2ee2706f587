pub mod ByHand  -- examples, worked out by hand
pub mod NetlistLaws
pub mod SheetLaws
pub mod MeaningLaws
