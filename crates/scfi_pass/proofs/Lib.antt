pub mod RankLemmas
pub mod PlainLemmas
pub mod RowLemmas
pub mod ChangingLemmas
pub mod TableLemmas
pub mod WorkedLemmas
