-- The definitions that contracts cite, in reading order.
pub mod Writable
pub mod Saying
pub mod Rows
pub mod Offsets
pub mod Procedures
pub mod Taking
pub mod Sound
pub mod Tracking
pub mod Order
pub mod Meant
pub mod Meanings
pub mod Faults
pub mod WorkedDirectives
