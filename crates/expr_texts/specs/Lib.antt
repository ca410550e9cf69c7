-- The definitions that contracts cite, in reading order.
pub mod Parts
pub mod Numbers
pub mod Operators
pub mod Leaves
pub mod Reading
pub mod Grammar
pub mod Found
pub mod Failing
pub mod Shown
pub mod Showing
