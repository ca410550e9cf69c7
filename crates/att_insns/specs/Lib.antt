-- The definitions that contracts cite, in reading order.
pub mod Slots
pub mod InsnTexts
pub mod Rules
pub mod Sizes
pub mod Sources
pub mod Heads
pub mod Reading
pub mod Spells
pub mod Failing
pub mod WorkedInsns
