-- The definitions that contracts cite, in reading order.
pub mod Accesses
pub mod Distances
pub mod States
