pub mod WayLemmas
pub mod DepthLemmas
