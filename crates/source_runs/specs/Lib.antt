-- The definitions that the contracts cite, in reading order.
pub mod Summary
pub mod Outcome
pub mod Answers
pub mod Readable
