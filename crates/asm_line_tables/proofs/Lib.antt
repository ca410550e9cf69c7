-- Lemmas, a file for each subject.
pub mod OptionLemmas
pub mod NumberLemmas
pub mod ConstantLocLemmas
pub mod ConstantFileLemmas
pub mod RangeLemmas
pub mod KeepLemmas
pub mod WorkedLemmas
