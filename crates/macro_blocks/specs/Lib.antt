-- The definitions that the contracts cite, in reading order.
pub mod Blocks
pub mod Laws
pub mod Levels
pub mod Places
pub mod Copies
pub mod Searches
pub mod Frames
pub mod Making
pub mod Passing
