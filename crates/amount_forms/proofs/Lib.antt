-- The proofs of this crate.
mod NamedForms
