-- The definitions that contracts cite, in reading order.
pub mod Places
pub mod Pairs
pub mod FormDistances
