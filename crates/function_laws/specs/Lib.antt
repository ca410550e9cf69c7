-- The definitions that contracts cite, in reading order.
pub mod Tabled
pub mod Recovered
pub mod Addresses
pub mod Jumping
