-- The proofs of this crate.
mod Lists
mod SameRows
mod TableFields
mod StandingSymbols
mod RelocatedFields
mod TableOps
mod TableEntries
mod HandedBytes
mod OneFunction
mod Recovering
