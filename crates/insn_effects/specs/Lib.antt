-- The definitions that contracts cite, in reading order.
pub mod Seven
pub mod Actions
pub mod Listed
pub mod Quiet
pub mod Decoding
pub mod Effects
pub mod Flows
pub mod Followed
pub mod Worked
