-- The proofs of this crate.
pub mod LinearLemmas
pub mod RowLemmas
pub mod PairLemmas
