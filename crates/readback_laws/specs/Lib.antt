-- The definitions that contracts cite, in reading order.
pub mod Origins
pub mod Instructions
pub mod ReadsBack
pub mod FramedTables
