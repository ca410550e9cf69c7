-- Lemmas, a file for each subject.
mod LimitLemmas
pub mod PushingLemmas
pub mod ReadingLemmas
pub mod FillingLemmas
pub mod JumpLemmas
pub mod ConditionLemmas
