-- The definitions, in reading order.
pub mod Pieces
pub mod Numbers
pub mod AttOperands
pub mod AttTexts
pub mod Printable
pub mod Completeness
pub mod TextLaws
pub mod Worked
