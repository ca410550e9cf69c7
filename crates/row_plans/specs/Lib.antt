-- The definitions that contracts cite, in reading order.
pub mod Resizing
pub mod Looking
pub mod Plans
