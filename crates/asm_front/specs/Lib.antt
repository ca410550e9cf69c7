-- The definitions that the contracts cite, in reading order.
pub mod Knowing
pub mod PlacerStates
pub mod Sources
pub mod Assembly
pub mod Outcome
pub mod ReadsBack
pub mod Made
pub mod Fitting
pub mod Answering
