-- The definitions that contracts cite, in reading order.
pub mod Digits
pub mod Lines
pub mod LineTexts
pub mod Listings
