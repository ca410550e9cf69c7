-- The definitions that the contracts cite, in reading order.
pub mod Constants
pub mod Sums
pub mod Numbers
pub mod Commas
pub mod Worths
pub mod Levels
pub mod Counting
pub mod Results
pub mod ExprFaults
pub mod LayerFaults
pub mod Operands
pub mod OperandParts
pub mod Expressions
pub mod UpToThreeTrees
pub mod NamedTrees
pub mod FewSums
