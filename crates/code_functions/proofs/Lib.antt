-- Lemmas, a file for each subject.
mod SpanLemmas
mod TallyLemmas
mod EndingLemmas
mod Worked
