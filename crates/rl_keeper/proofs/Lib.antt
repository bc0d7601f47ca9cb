pub mod RecordsLemmas
