pub mod CarriedLemmas
pub mod SpreadLemmas
pub mod ChargeLemmas
pub mod EndLemmas
pub mod FollowLemmas
