pub mod AsciiLemmas
pub mod CutLemmas
pub mod CountingLemmas
pub mod NameLemmas
pub mod KeyLemmas
pub mod HashLemmas
pub mod PackingLemmas
pub mod GroupingLemmas
pub mod QueryLemmas
pub mod QueryAgainLemmas
pub mod QueryWrittenLemmas
pub mod SpacingLemmas
pub mod TitleLemmas
pub mod TitleAgainLemmas
mod Worked
