-- The definitions that contracts cite, in reading order.
pub mod FileLocals
pub mod SymbolValues
pub mod Aliases
pub mod Targets
pub mod SymbolTable
pub mod Limits
pub mod Numbers
pub mod Views
