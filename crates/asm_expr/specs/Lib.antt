-- The definitions that contracts cite, in reading order.
pub mod Trees
pub mod Folds
pub mod Names
pub mod Forms
pub mod Knowledge
pub mod Raised
pub mod Settled
pub mod Arithmetic
pub mod Following
pub mod Linear
pub mod Evaluating
pub mod Coefficients
pub mod FormValues
pub mod NamesOf
