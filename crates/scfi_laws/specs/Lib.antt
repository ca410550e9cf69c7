-- The definitions that contracts cite, in reading order.
pub mod Performing
pub mod Executions
pub mod Recovering
pub mod Functions
pub mod ItemLaws
pub mod Laid
pub mod LaidLaws
pub mod ByteExecutions
pub mod ByteLaws
pub mod TableLaws
