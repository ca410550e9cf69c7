-- The definitions that contracts cite, in reading order.
pub mod Expanding
pub mod Opened
pub mod Linked
pub mod Expansions
pub mod FoundForms
