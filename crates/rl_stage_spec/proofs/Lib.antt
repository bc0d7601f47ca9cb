pub mod AnswersLemmas
pub mod BuiltLemmas
pub mod KeptLemmas
pub mod OriginLemmas
pub mod ReadLemmas
pub mod ServedLemmas
pub mod SharedLemmas
pub mod QueriesLemmas
pub mod StoredLemmas
pub mod TextsLemmas
pub mod VaryLemmas
pub mod ViewsLemmas
pub mod WiresLemmas
mod Worked
