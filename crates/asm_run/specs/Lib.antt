-- The definitions that the contracts cite, in reading order.
pub mod Outcome
pub mod Completes
pub mod Readable
pub mod ReadsBack
pub mod Recovers
