-- Lemmas, in reading order.
mod WrittenBytes
mod LabelSteps
mod Lists
mod FourBytes
mod PieceFacts
mod SplitPointers
mod EntryForm
mod Rises
mod CommonReading
mod EntryReading
mod PlacedFrames
mod EntriesInOrder
mod Tables
mod NamedSymbols
