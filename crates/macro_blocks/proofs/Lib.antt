-- The proofs of this crate.
pub mod Cuts
pub mod Lefts
pub mod Searches
pub mod Texts
pub mod CopyLemmas
pub mod Heads
pub mod MadeCopies
pub mod MadeFrames
pub mod FoundCuts
pub mod PassedTexts
pub mod Ends
pub mod EmptyBodies
