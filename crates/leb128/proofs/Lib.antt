pub mod ReadingLemmas
pub mod SignedLemmas
pub mod LongLemmas
pub mod SignedLongLemmas
pub mod DigitLemmas
pub mod LeastLemmas
