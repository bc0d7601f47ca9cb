pub mod OrderLemmas
pub mod PrintedLemmas
pub mod RegistrableLemmas
mod LinesLemmas
mod Worked
pub mod TellingLemmas
pub mod BlamedLemmas
pub mod UnreadyLemmas
