-- The definitions that contracts cite, in reading order.
pub mod Exchanges
pub mod Encoding
pub mod Answers
pub mod Faults
pub mod EncodingLaws
pub mod FieldPlaces
pub mod Readings
pub mod WorkedCodes
pub mod WorkedEncodings
