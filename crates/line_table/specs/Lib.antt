-- The definitions that contracts cite, in reading order.
pub mod Header
pub mod ListedFiles
pub mod Sequences
pub mod Placing
pub mod Refused
pub mod FoundTables
pub mod StandingLines
pub mod Additions
pub mod Counts
pub mod WorkedTables
