-- The proofs of this crate.
pub mod TextLemmas
pub mod ParameterLemmas
pub mod ArgumentLemmas
pub mod PuttingLemmas
pub mod RepeatLemmas
mod Samples
