-- Lemmas, a file for each subject.
pub mod JumpRows
pub mod JumpReads
pub mod ConditionNumbers
pub mod PaddingReads
