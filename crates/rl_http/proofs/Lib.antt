pub mod AppendLemmas
pub mod DigitsLemmas
pub mod FormsLemmas
pub mod HandLemmas
pub mod RepliesLemmas
pub mod RoutesLemmas
pub mod SentLemmas
pub mod ServingLemmas
mod Worked
pub mod WrittenLemmas
