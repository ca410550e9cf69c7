-- The proofs of this crate.
pub mod FileNames
pub mod Labels
pub mod SameTexts
pub mod WordNames
pub mod WordSlots
