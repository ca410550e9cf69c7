-- The definitions that the contracts cite, in reading order.
pub mod Parts
pub mod Words
pub mod WordsIn
pub mod Numbers
pub mod Placing
pub mod Constants
pub mod Keeping
pub mod WorkedStatements
