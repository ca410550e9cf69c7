pub mod RoomLemmas
pub mod UnderLemmas
pub mod MeaningLemmas
pub mod WorkedLemmas
