-- The proofs of this crate.
mod DataEnds
mod TokenLists
mod OperandEnds
mod SetLemmas
mod NamedTreeLemmas
mod PutTwice
mod NameLemmas
mod FewBytes
mod SumLemmas
mod PlainLemmas
mod LongSumLemmas
mod ConstantDataLemmas
mod ConstantOperandsLemmas
mod NamedNumberLemmas
