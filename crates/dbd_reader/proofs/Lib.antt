pub mod FieldNames
pub mod FirstLine
pub mod Kept
pub mod NextLine
pub mod OperandText
pub mod Whole
