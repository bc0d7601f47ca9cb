pub mod ChoiceLemmas
pub mod HistoryLemmas
pub mod IndexLemmas
pub mod OptionLemmas
pub mod SeenLemmas
mod Worked
