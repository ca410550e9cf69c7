-- The proofs of this crate.
pub mod LinkLemmas
mod RowFitting
mod RowLengths
