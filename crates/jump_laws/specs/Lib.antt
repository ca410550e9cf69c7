-- The definitions that the contracts cite.
pub mod JumpReadings
pub mod PaddingReadings
