-- The definitions that the contracts cite, in reading order.
pub mod Expansion
pub mod Placing
pub mod Starts
pub mod Macros
pub mod OpenParts
pub mod Turning
pub mod Heads
pub mod Expanding
pub mod Readings
pub mod Running
pub mod Fronts
pub mod Sources
pub mod Laws
