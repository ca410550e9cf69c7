-- The definitions that the contracts cite, in reading order.
pub mod Words
pub mod Statements
pub mod Conditions
pub mod Branches
pub mod Files
