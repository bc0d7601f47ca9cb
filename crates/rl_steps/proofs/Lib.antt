pub mod UsersLemmas
pub mod LinesLemmas
pub mod ConcludingLemmas
pub mod WrittenLemmas
pub mod SpellingLemmas
mod Worked
