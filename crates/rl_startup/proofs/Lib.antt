pub mod PlacesLemmas
pub mod RowsLemmas
pub mod FineLemmas
pub mod RegistryLemmas
