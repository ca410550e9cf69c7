-- The definitions that the contracts cite, in reading order.
pub mod Slots
pub mod Directives
pub mod Spaces
pub mod Paddings
pub mod SectionWords
pub mod SaidWords
pub mod SectionDefaults
pub mod SymbolKinds
