-- The definitions that contracts cite, in reading order.
pub mod Loaded
pub mod Beside
pub mod Codes
