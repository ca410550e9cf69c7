-- The definitions that contracts cite, in reading order.
pub mod Heads
pub mod Places
pub mod Immediates
pub mod FieldReadings
pub mod Admitting
pub mod Fitting
pub mod Decoding
pub mod WorkedDecodings
pub mod Slots
pub mod Instructions
pub mod RowSlots
pub mod Views
