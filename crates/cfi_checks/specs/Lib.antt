-- The definitions that contracts cite, in reading order.
pub mod Rows
pub mod Shown
pub mod Faults
pub mod Places
pub mod Checks
pub mod Worked
