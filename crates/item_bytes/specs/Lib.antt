-- The definitions that contracts cite, in reading order.
pub mod Levels
pub mod Leb128
pub mod NoOperations
pub mod Jumps
pub mod Advances
