pub mod CountingLemmas
pub mod DraftsLemmas
pub mod SearchLemmas
pub mod SettlingLemmas
pub mod TakenLemmas
