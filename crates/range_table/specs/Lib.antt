-- The definitions that contracts cite, in reading order.
pub mod Moving
pub mod Shown
