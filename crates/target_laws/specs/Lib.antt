-- The definitions that contracts cite, in reading order.
pub mod Targets
pub mod Jumps
pub mod Branches
pub mod Rooms
