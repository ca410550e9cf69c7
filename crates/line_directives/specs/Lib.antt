-- The definitions that contracts cite, in reading order.
pub mod Numbered
pub mod SourceFiles
pub mod Rows
pub mod Sequences
pub mod Taking
pub mod Meanings
pub mod Order
pub mod WorkedLines
