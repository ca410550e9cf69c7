-- The definitions that contracts cite, in reading order.
pub mod Operands
pub mod Mnemonics
pub mod Texts
pub mod Instructions
pub mod Printable
pub mod TextLaws
pub mod WorkedTexts
