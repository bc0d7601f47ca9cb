pub mod BlamedLemmas
pub mod LoopsLemmas
pub mod MarkedLemmas
pub mod UnknownsLemmas
pub mod VersionsLemmas
