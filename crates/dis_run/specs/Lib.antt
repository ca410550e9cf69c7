-- The definitions that the contracts cite, in reading order.
pub mod Outcome
pub mod Saying
pub mod Answers
