-- The definitions that the contracts cite, in reading order.
pub mod Alignments
pub mod Orgs
pub mod Leb128Numbers
