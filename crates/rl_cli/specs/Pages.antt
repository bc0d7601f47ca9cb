-- The history that a file of pages makes: its edits and options in order, without those that the rules refuse.
use Rattle.std.specs.Prelude.{List, [], ◌∷◌, ◌++◌, fold, Result, Ok, Err}
use Rattle.std.specs.Option.{option_map_or}
use Rattle.rl_pages.specs.declared.entry.Entry.{Entry}
use Rattle.rl_pages.specs.Refusals.{checked_edit, checked_choice}
use Rattle.rl_pages.specs.Viewer.{viewer_of}
use Rattle.rl_steps.specs.declared.step.Step.{Step}
use Rattle.rl_steps.specs.declared.step.Step.TheVariants.{Edit, Choice}
use Rattle.rl_view_spec.specs.Closure.{Text}

-- what was checked is added, and what is refused is passed over
abbrev pub added : {E : Type 0} → List Entry → Result Entry E → List Entry
added entries (Ok entry) = entries ++ entry ∷ []
added entries (Err why) = entries

-- the history after one more step, by the user whom it names
abbrev pub after_step : List Text → List Entry → Step → List Entry
after_step admins entries (Edit by title base text) =
    option_map_or (λ who. added entries (checked_edit admins entries who title base text)) (viewer_of by) entries
after_step admins entries (Choice user key value) =
    option_map_or (λ who. added entries (checked_choice entries who key value)) (viewer_of user) entries
after_step admins entries other = entries

-- the history that steps make, where these are the admins
abbrev pub history_of : List Text → List Step → List Entry
history_of admins steps = fold (after_step admins) [] steps
