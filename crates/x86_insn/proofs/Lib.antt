-- Lemmas on values.
mod MovedValues
