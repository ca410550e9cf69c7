-- The definitions that contracts cite, in reading order.
pub mod Intervals
pub mod LineNumbers
pub mod Faults
pub mod Statements
pub mod Seen
pub mod Scan
pub mod Laws
pub mod StatementTokens
pub mod NextStatements
pub mod Skips
pub mod Placing
pub mod TokenGrammar
