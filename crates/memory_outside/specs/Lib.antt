-- The definitions that the contracts cite, in reading order.
pub mod Memory
pub mod Faulty
