pub mod TextLemmas
pub mod PartTexts
pub mod SumTexts
pub mod LoneSums
