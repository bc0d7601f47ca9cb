pub mod CountsLemmas
pub mod MarkingLemmas
pub mod RankingLemmas
pub mod ReleasingLemmas
pub mod ReversingLemmas
pub mod SpreadingLemmas
pub mod ToolsLemmas
