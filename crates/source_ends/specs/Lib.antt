-- The definitions that the contracts cite, in reading order.
pub mod Synthesis
pub mod Ending
pub mod Finished
pub mod Fitting
