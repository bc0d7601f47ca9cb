pub mod ClosuresLemmas
pub mod CompactingLemmas
pub mod FallsLemmas
pub mod LeftLemmas
pub mod MarkedLemmas
pub mod NeededLemmas
pub mod BackwardsLemmas
pub mod RefusedLemmas
