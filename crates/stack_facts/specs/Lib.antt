-- The definitions that contracts cite, in reading order.
pub mod Places
pub mod Facts
pub mod Sets
pub mod Ranks
pub mod Passing
pub mod Sources
pub mod States
