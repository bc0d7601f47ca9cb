pub mod MarksLemmas
pub mod NamesLemmas
pub mod PickedLemmas
pub mod MergedLemmas
mod SearchLemmas
mod StockLemmas
mod Worked
