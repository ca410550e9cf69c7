-- The definitions that contracts cite, in reading order.
pub mod Words
pub mod Symbols
pub mod OperandTexts
pub mod Usual
pub mod Spells
pub mod Failing
pub mod WorkedOperands
