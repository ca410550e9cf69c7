-- The definitions that contracts cite, in reading order.
pub mod Rows
pub mod Fields
pub mod Bytes
pub mod Fits
pub mod Reads
pub mod WorkedReadings
pub mod Heads
pub mod Leads
pub mod WorkedWrites
pub mod WorkedOrder
