pub mod CutLemmas
pub mod OptionLemmas
mod Worked
mod RowLemmas
