-- The proofs of this crate.
pub mod Terms
pub mod SettledLemmas
pub mod RefusedSteps
pub mod LinearFolds
pub mod Weights
pub mod CoefficientLaws
pub mod GatherLemmas
pub mod SettledLaws
pub mod ReducedForms
pub mod KeptValues
pub mod DifferenceLemmas
