-- The definitions that contracts cite, in reading order.
pub mod SymbolMap
pub mod Answering
pub mod Interning
pub mod Counting
pub mod Defining
pub mod Assigning
pub mod Searching
pub mod LeadsBack
pub mod Attributes
pub mod Looking
pub mod Order
pub mod NameChains
pub mod Sound
