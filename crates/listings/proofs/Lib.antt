-- Lemmas on listings.
mod Joins
mod AllBytes
mod OneLists
