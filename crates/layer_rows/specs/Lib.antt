-- The definitions that contracts cite.
pub mod Fitting
pub mod Numbered
