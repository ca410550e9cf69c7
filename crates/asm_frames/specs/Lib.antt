-- The definitions that the contracts cite, in reading order.
pub mod Registers
pub mod Operands
pub mod Lines
pub mod Pointers
pub mod Placing
pub mod Keeping
