pub mod AppendingLemmas
pub mod EveryLemmas
pub mod PrintedLemmas
pub mod ReadBackLemmas
pub mod PlainLemmas
pub mod SaidLemmas
pub mod JsonReadLemmas
pub mod LinesLemmas
pub mod LoopingLemmas
pub mod GoodLemmas
pub mod StartupSaidLemmas
pub mod StartupAloneLemmas
pub mod StartupLoopingLemmas
mod ReadingWorked
mod StartupWorked
