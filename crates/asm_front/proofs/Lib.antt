-- The proofs of this crate.
mod ToldFiles
mod AnswerLemmas
mod AnswerFacts
mod WholeSources
mod MadeObjects
mod FittingObjects
mod AnswersReadBack
mod AnswersFit
mod ObjectSamples
mod OrderedStates
mod HandedStatements
mod SynthesizedEnds
mod AnswersMade
mod StartedFiles
