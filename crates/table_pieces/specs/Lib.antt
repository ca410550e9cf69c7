-- The definitions that contracts cite, in reading order.
pub mod Marks
pub mod Pieces
pub mod Ends
pub mod Labels
pub mod Standing
pub mod Found
pub mod StandingPlaces
pub mod Ready
pub mod Counts
pub mod Made
