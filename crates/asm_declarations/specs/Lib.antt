-- The definitions that the contracts cite, in reading order.
pub mod SectionChanges
pub mod SymbolWords
pub mod BareNames
pub mod Commons
pub mod SpaceWordsIn
pub mod Idents
