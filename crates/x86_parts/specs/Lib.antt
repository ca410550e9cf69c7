-- The definitions that contracts cite, in reading order.
pub mod Codes
pub mod Building
pub mod Keys
pub mod Filling
