pub mod WordLemmas
pub mod BitLemmas
pub mod ListedLemmas
pub mod TreeLemmas
