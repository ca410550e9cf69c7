-- Lemmas, in reading order.
mod GapDigits
mod Parts
mod RowPlaces
mod SequenceBytes
mod SplitPieces
mod Paths
mod HeaderBytes
mod RowRanges
mod PieceFacts
mod SequencesInFile
mod Tables
