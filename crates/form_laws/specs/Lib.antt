-- The definitions that contracts cite, in reading order.
pub mod Forms
pub mod Numbers
pub mod Framed
