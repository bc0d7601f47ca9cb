-- What a desk answers where the check of an edit or a choice refuses.
use Rattle.std.proofs.Common.{◌≡◌, ℕ, List, Result, Ok, Err, refl, subst, sym}
use Rattle.std.specs.Prelude.{IsErrAnd}
use Rattle.rl_names.specs.Meant.{Gives}
use Rattle.rl_pages.specs.Refusals.{edit_refusal, choice_refusal}
use Rattle.rl_pages.specs.declared.entry.Entry.{Entry}
use Rattle.rl_pages.specs.declared.refusals.EditError.{EditError}
use Rattle.rl_pages.specs.declared.refusals.EditError.TheVariants as edit
use Rattle.rl_pages.specs.declared.refusals.ChoiceError.{ChoiceError}
use Rattle.rl_pages.specs.declared.refusals.ChoiceError.TheVariants as choice
use Rattle.rl_wiki.specs.Desk.{RefusesEdit, RefusesChoice, EditsDesk, ChoosesDesk, edit_error, choice_error}
use Rattle.rl_wiki.specs.declared.error.DeskEditError.{DeskEditError}
use Rattle.rl_wiki.specs.declared.error.DeskChoiceError.{DeskChoiceError}

edit_refused : (why : EditError) (checked : Result Entry EditError) → Gives {V = Entry} edit_refusal (Err why) checked → RefusesEdit (edit_error why) checked
edit_refused edit.BadTitle checked h = (edit.BadTitle, h edit.BadTitle refl, refl)
edit_refused edit.NotAllowed checked h = (edit.NotAllowed, h edit.NotAllowed refl, refl)
edit_refused (edit.Conflict current) checked h = (edit.Conflict current, h (edit.Conflict current) refl, refl)
edit_refused (edit.TextTooLong len) checked h = (edit.TextTooLong len, h (edit.TextTooLong len) refl, refl)
edit_refused (edit.Full entries bytes) checked h = (edit.Full entries bytes, h (edit.Full entries bytes) refl, refl)
edit_refused edit.NoMemory checked h = tt

pub edit_turned : (why : EditError) (result : Result ℕ DeskEditError) (checked : Result Entry EditError) (before after : List Entry)
    → IsErrAnd result (λ e. e ≡ edit_error why) → Gives {V = Entry} edit_refusal (Err why) checked → after ≡ before
    → EditsDesk result checked before after
edit_turned why (Ok number) checked before after turned h same = absurd turned
edit_turned why (Err e) checked before after turned h same = (subst (λ x. RefusesEdit x checked) (sym turned) (edit_refused why checked h), same)

choice_refused : (why : ChoiceError) (checked : Result Entry ChoiceError) → Gives {V = Entry} choice_refusal (Err why) checked
    → RefusesChoice (choice_error why) checked
choice_refused choice.NotAllowed checked h = (choice.NotAllowed, h choice.NotAllowed refl, refl)
choice_refused choice.BadKey checked h = (choice.BadKey, h choice.BadKey refl, refl)
choice_refused (choice.TextTooLong len) checked h = (choice.TextTooLong len, h (choice.TextTooLong len) refl, refl)
choice_refused (choice.Full entries bytes) checked h = (choice.Full entries bytes, h (choice.Full entries bytes) refl, refl)
choice_refused choice.NoMemory checked h = tt

pub choice_turned : (why : ChoiceError) (result : Result ℕ DeskChoiceError) (checked : Result Entry ChoiceError) (before after : List Entry)
    → IsErrAnd result (λ e. e ≡ choice_error why) → Gives {V = Entry} choice_refusal (Err why) checked → after ≡ before
    → ChoosesDesk result checked before after
choice_turned why (Ok number) checked before after turned h same = absurd turned
choice_turned why (Err e) checked before after turned h same = (subst (λ x. RefusesChoice x checked) (sym turned) (choice_refused why checked h), same)
