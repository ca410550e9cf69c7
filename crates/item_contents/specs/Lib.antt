-- The definitions that contracts cite, in reading order.
pub mod ItemParts
pub mod Zeros
pub mod Contents
pub mod FixedSizes
pub mod Visits
