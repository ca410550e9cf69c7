pub mod CommonLemmas
pub mod ProgressLemmas
mod SharedCommons
mod SharingLemmas
mod PieceFacts
mod TableSteps
mod NewTable
mod ReadingLemmas
mod RefusedLemmas
mod WorkedLemmas
mod TableLemmas
mod AddedNames
mod LabelPlaces
