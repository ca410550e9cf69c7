-- The proofs of this crate.
pub mod SameBytes
pub mod SlotLemmas
pub mod TokenLists
pub mod NameParts
pub mod KindLemmas
pub mod OperandEnds
