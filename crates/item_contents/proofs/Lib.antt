-- The proofs of this crate.
pub mod Units
mod Repeats
pub mod BytesGiven
pub mod ContentLemmas
pub mod Samples
