-- The proofs of this crate.
mod Samples
pub mod ShallowLists
pub mod FileFronts
pub mod FilesGrow
pub mod FrontLemmas
pub mod Handed
pub mod HeadTurns
pub mod MacroLemmas
pub mod Measures
pub mod Opened
pub mod Parts
pub mod Runs
pub mod SourceLemmas
pub mod SourceSteps
pub mod Stacks
pub mod Texts
pub mod Turnings
pub mod Turns
pub mod Wholes
