-- Lemmas, a file for each subject.
mod ReadNumbers
