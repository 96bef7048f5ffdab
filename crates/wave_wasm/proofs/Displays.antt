pub mod TypeParts
pub mod TextAppend
pub mod Functions
pub mod JoinedTexts
