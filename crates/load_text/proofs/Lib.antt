-- The proofs of this crate.
mod Bytes
mod Samples
