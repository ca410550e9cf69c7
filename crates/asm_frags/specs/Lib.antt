-- The definitions that contracts cite, in reading order.
pub mod Fields
pub mod PlainBytes
pub mod Alignments
pub mod KnownExtents
pub mod SectionOf
pub mod Groups
pub mod Writing
pub mod Answers
pub mod Sound
pub mod SoundItems
pub mod Sections
pub mod Substituting
pub mod Addresses
