pub mod Rows
pub mod Instructions
pub mod Pointers
pub mod Commons
pub mod Differences
