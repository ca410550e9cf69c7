-- The proofs of this crate.
pub mod RisingRounds
pub mod CountedRounds
