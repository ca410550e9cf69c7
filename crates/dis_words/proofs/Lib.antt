-- Lemmas on the words.
mod Reading
mod CommandSamples
