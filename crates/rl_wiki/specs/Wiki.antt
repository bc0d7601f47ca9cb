-- A wiki: its definitions and its history.
use Rattle.std.specs.Prelude.{◌≡◌, ℕ, ◌+◌, List, [], ◌∷◌, ◌++◌, length, Result, Ok, Err}
use Rattle.rl_names.specs.Meant.{Gives}
use Rattle.rl_defs.specs.Catalogue.{Catalogue}
use Rattle.rl_pages.specs.declared.entry.Entry.{Entry}
use Rattle.rl_pages.specs.declared.refusals.EditError.{EditError}
use Rattle.rl_pages.specs.declared.refusals.ChoiceError.{ChoiceError}
use Rattle.rl_pages.specs.Refusals.{edit_refusal, choice_refusal}

-- what contracts see of a wiki
pub record WikiState : Type 0 where
  pub catalogue : Catalogue
  pub entries : List Entry

-- what was checked is the last entry, and its number is told
abbrev pub Takes : {E : Type 0} → ℕ → Result Entry E → List Entry → List Entry → Type 0
Takes number checked before after = (entry : Entry) × (checked ≡ Ok entry) × (after ≡ before ++ entry ∷ []) × (number ≡ length before + 1)

-- the answer of a wiki to an edit, and the histories before and after it; want of memory may come in place of an answer
abbrev pub Edits : Result ℕ EditError → Result Entry EditError → List Entry → List Entry → Type 0
Edits (Ok number) checked before after = Takes number checked before after
Edits (Err why) checked before after = Gives edit_refusal (Err why) checked × (after ≡ before)

-- the answer of a wiki to a choice, and the histories before and after it
abbrev pub Chooses : Result ℕ ChoiceError → Result Entry ChoiceError → List Entry → List Entry → Type 0
Chooses (Ok number) checked before after = Takes number checked before after
Chooses (Err why) checked before after = Gives choice_refusal (Err why) checked × (after ≡ before)
