-- The definitions that contracts cite, in reading order.
pub mod Registers
pub mod Amounts
pub mod Operands
pub mod OperandFolds
pub mod Visiting
pub mod Knowing
pub mod Views
