-- The proofs of this crate.
pub mod OneRanking
pub mod RaisedLemmas
pub mod RoundLemmas
pub mod SumLemmas
pub mod LevelNumbers
pub mod RunNumbers
pub mod RunLayout
pub mod LayoutLemmas
pub mod SomeRanking
pub mod ReachedLemmas
