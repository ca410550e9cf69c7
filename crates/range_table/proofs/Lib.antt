-- The proofs of this crate.
pub mod ShownLemmas
pub mod MovingLemmas
