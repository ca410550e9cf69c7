-- The definitions that the contracts cite, in reading order.
pub mod TokenTexts
pub mod Parameters
pub mod ParametersSeen
pub mod PartLengths
pub mod Arguments
pub mod ArgumentsSeen
pub mod Putting
pub mod PuttingSeen
pub mod Repeats
pub mod RepeatsSeen
