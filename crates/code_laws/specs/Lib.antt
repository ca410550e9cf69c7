-- The definitions that contracts cite, in reading order.
pub mod Sections
pub mod Codes
pub mod Bare
pub mod Padding
pub mod Relocated
pub mod Instructions
pub mod Statements
pub mod Functions
pub mod Jumps
pub mod Numbers
