-- The definitions that contracts cite, in reading order.
pub mod Classes
pub mod Lexemes
