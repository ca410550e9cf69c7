-- The proofs of this crate.
mod PlainLemmas
mod AlignmentLemmas
mod KnownExtentLemmas
mod StretchLemmas
mod SubstitutingLemmas
mod AddressLemmas
mod NamedLemmas
mod PushLemmas
mod Samples
