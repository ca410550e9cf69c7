-- Lemmas, in reading order.
mod WritingLemmas
mod LoopSteps
mod Repeats
mod PieceLemmas
mod MixedLemmas
mod ObjectLemmas
mod WaitingLemmas
pub mod FilePlaces
mod LayingLemmas
mod NamePlaces
mod HeaderPlaces
