-- Lemmas, a file for each subject.
pub mod PaddingLemmas
pub mod TopLemmas
pub mod Powers
pub mod RowLemmas
pub mod LookLemmas
pub mod EndLemmas
pub mod LinkLemmas
pub mod TreeLemmas
pub mod RunLemmas
pub mod WatchLemmas
