-- The definitions that contracts cite, in reading order.
pub mod Graphs
pub mod Exact
pub mod Search
