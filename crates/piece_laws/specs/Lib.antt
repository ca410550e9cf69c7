-- The definitions that contracts cite, in reading order.
pub mod HeldDistances
pub mod LaidTables
pub mod Pointers
pub mod PiecesInFile
