-- Lemmas on what bytes read as.
mod RowGroups
mod TableFacts
mod Peeling
mod FieldBytes
mod RowHeads
mod OneReading
mod HeadOrder
mod Lengths
