-- The proofs of this crate.
pub mod NumberLemmas
pub mod LeafLemmas
pub mod LevelTable
pub mod TokenLists
pub mod TreeCounts
pub mod CommaLemmas
pub mod CountingLemmas
pub mod CutLemmas
pub mod LoneLemmas
pub mod SumLemmas
pub mod OperandSplits
pub mod PlainStrings
pub mod NamedLemmas
pub mod FewSumLemmas
