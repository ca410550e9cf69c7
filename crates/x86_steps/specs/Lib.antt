-- The definitions that contracts cite, in reading order.
pub mod Memory
pub mod States
pub mod Operands
pub mod Steps
pub mod Acts
pub mod Leading
pub mod Fillings
pub mod Readings
pub mod WorkedActions
pub mod WorkedSteps
pub mod WorkedOperands
pub mod WorkedChanges
pub mod WorkedReadings
