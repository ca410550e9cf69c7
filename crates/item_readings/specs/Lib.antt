-- The definitions that contracts cite, in reading order.
pub mod Items
pub mod Padding
pub mod Worked
pub mod WorkedLoop
