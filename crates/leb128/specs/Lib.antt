pub mod Reading
pub mod Digits
pub mod Room
pub mod Numbers
