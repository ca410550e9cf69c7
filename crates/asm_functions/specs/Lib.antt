-- The definitions that contracts cite, in reading order.
pub mod Following
pub mod FollowedSource
pub mod Refusals
pub mod Standing
pub mod Joined
pub mod Worked
