-- The proofs of this crate.
mod ReadsBackAgain
mod RecoversAgain
mod Commands
mod OneOutcome
mod Samples
