-- The definitions that contracts cite, in reading order.
pub mod OneAnswer
pub mod SomeAnswer
pub mod Sights
pub mod WrittenTables
pub mod RowsInForce
pub mod TableFrames
pub mod MeantRows
