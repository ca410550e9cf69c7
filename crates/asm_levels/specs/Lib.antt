-- The definitions that contracts cite, in reading order.
pub mod Distances
pub mod Packing
pub mod Sizes
pub mod Shifts
pub mod Needs
pub mod Standing
pub mod RowLists
pub mod Watching
