-- The proofs of this crate.
pub mod WholeFileLemmas
pub mod Comments
pub mod Quotes
pub mod ReadingTokens
pub mod StringLemmas
pub mod Spans
pub mod DivisionEnds
pub mod DivisionFirst
pub mod DivisionSome
pub mod Division
pub mod StringValues
mod Samples
