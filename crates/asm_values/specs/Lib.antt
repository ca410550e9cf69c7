-- The definitions that the contracts cite, in reading order.
pub mod Answers
pub mod State
pub mod PlacedBy
pub mod KnownOperands
pub mod KnownOperandsIn
pub mod DataItems
pub mod Data
pub mod ConstantOperands
pub mod ConstantData
pub mod Sizes
pub mod Assignments
pub mod NamedNumbers
