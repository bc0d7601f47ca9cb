-- A step that the rules refuse leaves the history as it is.
use Rattle.std.proofs.Common.{◌≡◌, ℕ, List, Option, Some, None, sym, ap, ◌∙◌}
use Rattle.std.specs.Prelude.{Err}
use Rattle.std.specs.Option.{option_map_or}
use Rattle.rl_names.specs.Meant.{Gives}
use Rattle.rl_view_spec.specs.Closure.{Text}
use Rattle.rl_pages.specs.declared.entry.Entry.{Entry}
use Rattle.rl_pages.specs.declared.viewer.Viewer.{Viewer}
use Rattle.rl_pages.specs.declared.refusals.EditError.{EditError}
use Rattle.rl_pages.specs.declared.refusals.ChoiceError.{ChoiceError}
use Rattle.rl_pages.specs.Refusals.{checked_edit, checked_choice, edit_refusal, choice_refusal}
use Rattle.rl_pages.specs.Viewer.{viewer_of}
use Rattle.rl_steps.specs.declared.step.Step.TheVariants.{Edit, Choice}
use Rattle.rl_cli.specs.Pages.{added, after_step}

-- what the user whom a step names makes of a history
by_user : (entries : List Entry) (made : Viewer → List Entry) (by by' : Text) (who : Option Viewer) → by' ≡ by → viewer_of by' ≡ who
    → option_map_or made (viewer_of by) entries ≡ option_map_or made who entries
by_user entries made by by' who same named = ap (λ b. option_map_or made (viewer_of b) entries) (sym same) ∙ ap (λ o. option_map_or made o entries) named

module _ (admins : List Text) (entries after : List Entry) (by by' title title' : Text) (base : ℕ) (text text' : Text) (same : by' ≡ by) where
  pub nobodys_edit : viewer_of by' ≡ None → entries ≡ after_step admins entries (Edit by title base text)
  nobodys_edit named = sym (by_user entries (λ who. added entries (checked_edit admins entries who title base text)) by by' None same named)

  pub refused_edit : (who : Viewer) (why refusal : EditError) → title' ≡ title → text' ≡ text → viewer_of by' ≡ Some who
      → Gives {V = Entry} edit_refusal (Err why) (checked_edit admins entries who title' base text') → after ≡ entries
      → edit_refusal why ≡ Some refusal → after ≡ after_step admins entries (Edit by title base text)
  refused_edit who why refusal titles texts named gives stays tells =
      let made : Viewer → List Entry = λ who. added entries (checked_edit admins entries who title base text) in
      let checked : checked_edit admins entries who title base text ≡ Err refusal
      = ap (λ t. checked_edit admins entries who t base text) (sym titles) ∙ ap (checked_edit admins entries who title' base) (sym texts)
      ∙ gives refusal tells in
      stays ∙ sym (by_user entries made by by' (Some who) same named ∙ ap (added entries) checked)

module _ (admins : List Text) (entries after : List Entry) (user user' key key' value value' : Text) (same : user' ≡ user) where
  pub nobodys_choice : viewer_of user' ≡ None → entries ≡ after_step admins entries (Choice user key value)
  nobodys_choice named = sym (by_user entries (λ who. added entries (checked_choice entries who key value)) user user' None same named)

  pub refused_choice : (who : Viewer) (why refusal : ChoiceError) → key' ≡ key → value' ≡ value → viewer_of user' ≡ Some who
      → Gives {V = Entry} choice_refusal (Err why) (checked_choice entries who key' value') → after ≡ entries
      → choice_refusal why ≡ Some refusal → after ≡ after_step admins entries (Choice user key value)
  refused_choice who why refusal keys values named gives stays tells =
      let made : Viewer → List Entry = λ who. added entries (checked_choice entries who key value) in
      let checked : checked_choice entries who key value ≡ Err refusal
      = ap (λ k. checked_choice entries who k value) (sym keys) ∙ ap (checked_choice entries who key') (sym values) ∙ gives refusal tells in
      stays ∙ sym (by_user entries made user user' (Some who) same named ∙ ap (added entries) checked)
