-- Lemmas of the parts of a code.
mod Picks
