-- The definitions that the contracts cite, in reading order.
pub mod Counts
pub mod Inputs
pub mod Output
pub mod Console
pub mod FaultTexts
pub mod Messages
pub mod WholeFile
pub mod History
pub mod ByteClasses
pub mod Pieces
pub mod Refusals
pub mod Dividing
pub mod Tokens
pub mod Digits
pub mod Strings
pub mod StringGrammar
