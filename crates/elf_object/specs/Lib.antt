-- The definitions that contracts cite, in reading order.
pub mod Relocations
pub mod Contents
pub mod Faults
pub mod Naming
pub mod Sections
pub mod GroupLists
pub mod Image
pub mod Limits
pub mod Objects
pub mod Places
pub mod TableLaws
pub mod RelocationLaws
pub mod FieldRelocations
pub mod Views
pub mod Marking
