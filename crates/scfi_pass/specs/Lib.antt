-- The definitions that contracts cite, in reading order.
pub mod Registers
pub mod Rows
pub mod Changing
pub mod Faults
pub mod Looking
pub mod Plain
pub mod Tables
pub mod Synthesis
pub mod Worked
