-- The definitions that contracts cite, in reading order.
pub mod Commons
pub mod Entries
pub mod Placing
pub mod Sharing
pub mod Progress
pub mod Refused
pub mod FoundTables
pub mod StandingFrames
pub mod Additions
pub mod Reading
pub mod WorkedTables
