mod FieldOrder
mod Counting
pub mod PutLemmas
