-- The definitions that contracts cite, in reading order.
pub mod Ranges
pub mod Forms
pub mod Keys
pub mod Names
pub mod Writing
pub mod BareInstructions
pub mod Mnemonics
pub mod BareCodes
