-- The definitions that the contracts cite, in reading order.
pub mod Words
pub mod Invoked
