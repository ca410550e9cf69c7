pub mod Covering
pub mod Reading
pub mod Padding
pub mod Laying
pub mod Running
pub mod Looping
