pub mod AllNamesLemmas
pub mod KnownLemmas
pub mod DistinctLemmas
pub mod PagesLemmas
