-- The definitions that contracts cite, in reading order.
pub mod Parts
pub mod OtherRegisters
pub mod Sums
pub mod Spells
pub mod LoneSums
pub mod SumLaws
