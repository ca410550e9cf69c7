pub mod RankLemmas
pub mod RowLemmas
pub mod WorkedLemmas
pub mod CheckLemmas
