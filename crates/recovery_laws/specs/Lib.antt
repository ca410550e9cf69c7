-- The definitions that contracts cite, in reading order.
pub mod Linked
pub mod Executions
pub mod Recovered
pub mod Sources
