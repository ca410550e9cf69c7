-- The definitions that contracts cite, in reading order.
pub mod Registers
pub mod Slots
pub mod Marks
pub mod Addresses
pub mod Values
pub mod Amounts
pub mod OperandTexts
pub mod Usual
pub mod Spells
pub mod Failing
pub mod WholeValues
pub mod WorkedOperands
pub mod Prefixes
