-- Lemmas, a file for each subject.
pub mod RowLemmas
pub mod ShiftLemmas
pub mod RowOrder
pub mod LevelLemmas
pub mod RoundLemmas
pub mod ResizingLemmas
pub mod SizedLemmas
pub mod PassLemmas
pub mod WideLemmas
pub mod PartLemmas
pub mod TouchedLemmas
pub mod CalmLemmas
