pub mod EdgesLemmas
pub mod IndexLemmas
pub mod LeastLemmas
pub mod RowsReadLemmas
pub mod WalkingLemmas
