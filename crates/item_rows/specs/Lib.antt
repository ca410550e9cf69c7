-- The definitions that contracts cite, in reading order.
pub mod Links
pub mod ItemRows
pub mod RowViews
pub mod RowBounds
