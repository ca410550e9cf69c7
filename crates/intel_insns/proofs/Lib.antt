pub mod WorkedTexts
pub mod Fillings
pub mod SizesFound
pub mod SpelledInsns
pub mod ReadInsns
pub mod FaultsOfInsns
pub mod SizesLeft
