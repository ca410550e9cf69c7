-- Lemmas, a file for each subject.
pub mod RegisterLemmas
pub mod OneLemmas
pub mod KeepLemmas
