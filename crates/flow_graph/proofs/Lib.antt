-- Lemmas, a file for each subject.
mod LandingLemmas
mod TargetLemmas
mod AddedLabels
mod FieldLemmas
mod NodeLemmas
mod RuleLemmas
mod Worked
