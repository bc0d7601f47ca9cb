pub mod DeskLemmas
pub mod FrontLemmas
pub mod OpeningLemmas
pub mod AnsweringLemmas
