pub mod KeptLemmas
mod CutsLemmas
mod OrdersLemmas
mod DistinctLemmas
mod VersionsLemmas
mod WholeLemmas
mod CountedLemmas
mod AskedLemmas
