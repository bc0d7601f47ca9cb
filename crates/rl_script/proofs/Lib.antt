pub mod MembersLemmas
pub mod TextsLemmas
pub mod LinesLemmas
