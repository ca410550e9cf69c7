-- The definitions that contracts cite, in reading order.
pub mod Fields
pub mod StringTable
pub mod TableEntries
pub mod Pieces
pub mod Sections
pub mod Limits
pub mod Image
pub mod Reader
pub mod Places
pub mod FileLaws
pub mod Views
pub mod Waiting
