-- The definitions that contracts cite, in reading order.
pub mod LabelCounts
pub mod PlacedTables
pub mod TableReads
pub mod NamedSymbols
