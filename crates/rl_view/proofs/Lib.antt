pub mod AnswersLemmas
pub mod BroughtLemmas
pub mod ListsLemmas
pub mod NowLemmas
pub mod ReadingsLemmas
pub mod RunsLemmas
pub mod TouchesLemmas
