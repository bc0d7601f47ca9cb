-- A wiki over a keeper: its history beside the entries that are kept.
use Rattle.std.specs.Prelude.{◌≡◌, ⊤, ℕ, List, Option, Some, Result, Ok, Err}
use Rattle.rl_defs.specs.Catalogue.{Catalogue}
use Rattle.rl_pages.specs.declared.entry.Entry.{Entry}
use Rattle.rl_pages.specs.declared.refusals.EditError.{EditError}
use Rattle.rl_pages.specs.declared.refusals.EditError.TheVariants as edit
use Rattle.rl_pages.specs.declared.refusals.ChoiceError.{ChoiceError}
use Rattle.rl_pages.specs.declared.refusals.ChoiceError.TheVariants as choice
use Rattle.rl_wiki.specs.declared.error.DeskEditError.{DeskEditError}
use Rattle.rl_wiki.specs.declared.error.DeskEditError.TheVariants as desk_edit
use Rattle.rl_wiki.specs.declared.error.DeskChoiceError.{DeskChoiceError}
use Rattle.rl_wiki.specs.declared.error.DeskChoiceError.TheVariants as desk_choice
use Rattle.rl_wiki.specs.declared.error.OpenError.{OpenError}
use Rattle.rl_wiki.specs.declared.error.OpenError.TheVariants as opening
use Rattle.rl_wiki.specs.Opening.{first_bad, WereRead}
use Rattle.rl_wiki.specs.Wiki.{Takes}

-- what contracts see of a desk
pub record DeskState (K : Type 0) : Type 0 where
  pub catalogue : Catalogue
  pub entries : List Entry
  pub keeper : K

-- where the keeper tells its entries, they are those of the history
abbrev pub AreTogether : Option (List Entry) → List Entry → Type 0
AreTogether kept entries = (told : List Entry) → kept ≡ Some told → told ≡ entries

-- ---- edits

abbrev pub edit_error : EditError → DeskEditError
edit_error edit.BadTitle = desk_edit.BadTitle
edit_error edit.NotAllowed = desk_edit.NotAllowed
edit_error (edit.Conflict current) = desk_edit.Conflict current
edit_error (edit.TextTooLong len) = desk_edit.TextTooLong len
edit_error (edit.Full entries bytes) = desk_edit.Full entries bytes
edit_error edit.NoMemory = desk_edit.NoMemory

-- An edit is refused for what its check says. Only what the check takes meets a fault of the keeper.
abbrev pub RefusesEdit : DeskEditError → Result Entry EditError → Type 0
RefusesEdit desk_edit.Failed checked = (entry : Entry) × (checked ≡ Ok entry)
RefusesEdit desk_edit.NoMemory checked = ⊤
RefusesEdit why checked = (refusal : EditError) × (checked ≡ Err refusal) × (why ≡ edit_error refusal)

-- the answer of a desk to an edit, and the histories before and after it
abbrev pub EditsDesk : Result ℕ DeskEditError → Result Entry EditError → List Entry → List Entry → Type 0
EditsDesk (Ok number) checked before after = Takes number checked before after
EditsDesk (Err why) checked before after = RefusesEdit why checked × (after ≡ before)

-- ---- choices

abbrev pub choice_error : ChoiceError → DeskChoiceError
choice_error choice.NotAllowed = desk_choice.NotAllowed
choice_error choice.BadKey = desk_choice.BadKey
choice_error (choice.TextTooLong len) = desk_choice.TextTooLong len
choice_error (choice.Full entries bytes) = desk_choice.Full entries bytes
choice_error choice.NoMemory = desk_choice.NoMemory

abbrev pub RefusesChoice : DeskChoiceError → Result Entry ChoiceError → Type 0
RefusesChoice desk_choice.Failed checked = (entry : Entry) × (checked ≡ Ok entry)
RefusesChoice desk_choice.NoMemory checked = ⊤
RefusesChoice why checked = (refusal : ChoiceError) × (checked ≡ Err refusal) × (why ≡ choice_error refusal)

-- the answer of a desk to a choice, and the histories before and after it
abbrev pub ChoosesDesk : Result ℕ DeskChoiceError → Result Entry ChoiceError → List Entry → List Entry → Type 0
ChoosesDesk (Ok number) checked before after = Takes number checked before after
ChoosesDesk (Err why) checked before after = RefusesChoice why checked × (after ≡ before)

-- ---- opening

-- a desk is not opened for the first bad entry that was read; the other two causes say nothing of entries
abbrev pub RefusesToOpen : Option (List Entry) → OpenError → Type 0
RefusesToOpen kept (opening.BadRecord number) = (read : List Entry) × WereRead kept read × (first_bad read ≡ Some number)
RefusesToOpen kept opening.Failed = ⊤
RefusesToOpen kept opening.NoMemory = ⊤
