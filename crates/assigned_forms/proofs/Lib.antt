-- The proofs of this crate.
pub mod RankLemmas
pub mod ExpandingLemmas
pub mod ExpansionLemmas
pub mod OpenedLemmas
pub mod LinkedLemmas
pub mod OwnForms
pub mod WayLemmas
