-- The definitions that the contracts cite, in reading order.
pub mod Faults
pub mod Remarks
pub mod SyntaxWords
pub mod Coding
pub mod Effects
pub mod Amounts
pub mod Placing
pub mod Sources
pub mod Instructions
pub mod Bodies
pub mod PutSections
pub mod CodePlaces
pub mod JumpPlaces
pub mod SymbolPlaces
pub mod ProcedurePlaces
pub mod LinePlaces
pub mod SourceSizes
