-- The definitions that the contracts cite, in reading order.
pub mod Tables
pub mod Lending
pub mod Attributes
pub mod Labels
pub mod Places
pub mod KnownIn
pub mod SumForms
pub mod SymbolSums
pub mod PlainSums
pub mod LongSums
pub mod Values
