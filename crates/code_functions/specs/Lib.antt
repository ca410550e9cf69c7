-- The definitions that contracts cite, in reading order.
pub mod InOrder
pub mod Recorded
pub mod Seen
pub mod Lists
pub mod Spans
pub mod Tallies
pub mod Worked
