-- The proofs of this crate.
mod Lists
mod FinishedObjects
mod FaultLaws
mod RowCounts
mod PlacesInOrder
mod FrameAnswers
mod SynthesizedFrames
mod OneSynthesis
mod ReadyFrames
mod SynthesizedEnds
