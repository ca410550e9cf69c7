-- The definitions that contracts cite, in reading order.
pub mod Final
pub mod FieldValues
pub mod Layout
pub mod Placing
pub mod Faults
pub mod RangeChecks
pub mod LowPlaces
pub mod RowBounds
pub mod Settling
pub mod ItemValues
pub mod ValueRanges
pub mod SettledRoom
pub mod KeptSections
pub mod RisingRows
