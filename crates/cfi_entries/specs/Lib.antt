pub mod Places
pub mod Entries
pub mod Walks
pub mod Written
pub mod Lines
pub mod RowLists
pub mod WorkedRows
