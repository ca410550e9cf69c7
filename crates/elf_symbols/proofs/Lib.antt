-- Lemmas, in reading order.
mod LoopSteps
mod AliasLemmas
mod AliasSamples
