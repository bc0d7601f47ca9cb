pub mod MadeLemmas
pub mod PiecesLemmas
pub mod SortingLemmas
pub mod AskingLemmas
pub mod IsolationLemmas
pub mod PartsLemmas
