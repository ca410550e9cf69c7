-- The proofs of this crate.
mod BareLemmas
mod GroupFlags
