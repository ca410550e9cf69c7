-- The proofs of this crate.
mod SaidPieces
mod MadeFiles
mod Deliveries
mod StartedFiles
mod ReadableObjects
mod StandingOutcomes
