-- The definitions that contracts cite, in reading order.
pub mod Ends
pub mod Branches
pub mod Statements
pub mod Alignments
pub mod Jumps
pub mod Low
