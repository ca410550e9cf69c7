-- The lemmas, in reading order.
pub mod PieceTokens
pub mod WorkedTexts
pub mod DigitTexts
pub mod NumberTexts
pub mod RegisterTexts
pub mod OperandTexts
pub mod InsnTexts
pub mod FoundSizes
pub mod Decided
pub mod ApartTexts
pub mod AttLaws
pub mod MnemonicFacts
pub mod FittingFields
