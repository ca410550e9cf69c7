-- The definitions that contracts cite, in reading order.
pub mod Obeying
pub mod Filled
pub mod Held
pub mod Loaded
pub mod Jumps
pub mod NoOperations
