-- The proofs of this crate.
pub mod InternLemmas
pub mod TextLemmas
pub mod SumNames
pub mod SumLemmas
pub mod PlainLemmas
pub mod LongSumLemmas
pub mod ValueLemmas
