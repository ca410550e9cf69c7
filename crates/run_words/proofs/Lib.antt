-- The proofs of this crate.
pub mod ReadNumbers
mod Reading
mod CommandSamples
