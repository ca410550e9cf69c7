-- The definitions that contracts cite, in reading order.
pub mod Limits
pub mod FileReading
pub mod ObjectLimits
pub mod SymbolReading
pub mod GroupReading
pub mod SectionPlaces
pub mod SmallSources
pub mod RelocationReading
pub mod RelocationTypes
pub mod Entries
pub mod FieldTypes
pub mod FieldSymbols
pub mod Suffixes
pub mod LinkedValues
