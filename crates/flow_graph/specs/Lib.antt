-- The definitions that contracts cite, in reading order.
pub mod Targets
pub mod Nodes
pub mod AddedLabels
pub mod Walks
pub mod Rules
pub mod Worked
