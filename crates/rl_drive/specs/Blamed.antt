-- Why not everything was served, read off progress and what rows were given.
use Rattle.std.specs.Prelude.{◌&&◌, ◌||◌, ℕ, List, Bool, true, false, not, if◌then◌else◌, filter, is_none, is_some, map, reverse, Option}
use Rattle.std.specs.Option.{option_map_or}
use Rattle.rl_names.specs.declared.name.Key.{Key}
use Rattle.rl_view_spec.specs.Closure.{Text}
use Rattle.rl_view_spec.specs.Laws.{AreLawful}
use Rattle.rl_view_spec.specs.Numbers.{number_of}
use Rattle.rl_view_spec.specs.Progress.{Progress, has_run, is_skipped_at, name_at, outcome_at, phase_of}
use Rattle.rl_view_spec.specs.View.{View, Event, log_of}
use Rattle.rl_view_spec.specs.declared.Phase.{Phase}
use Rattle.rl_view_spec.specs.declared.Phase.TheVariants as phase
use Rattle.rl_script_spec.specs.declared.Blame.{Blame}
use Rattle.rl_script_spec.specs.declared.Blame.TheVariants as blames
use Rattle.rl_script_spec.specs.declared.Step.{Step}
use Rattle.rl_drive.specs.Played.{execution_at}
use Rattle.rl_drive.specs.Player.{HasPlayed, Sees}
use Rattle.rl_drive.specs.declared.player.Player.{Player}

abbrev pub is_error : Phase → Bool
is_error phase.Error = true
is_error other = false

abbrev pub is_missing : Phase → Bool
is_missing phase.Missing = true
is_missing other = false

-- A row is to blame by itself where it is not skipped and was given no implementation, or ran and is in error for all that.
abbrev pub is_to_blame_at : Progress → List (Option (Key × Text)) → ℕ → Bool
is_to_blame_at t given row =
    not (is_skipped_at t.registered row) && (is_none (execution_at given row) || (has_run t row && is_error (phase_of t row)))

-- what a row that is to blame has done
abbrev pub blame_at : Progress → List (Option (Key × Text)) → ℕ → Blame
blame_at t given row =
    if is_some (execution_at given row) then blames.Threw
    else if is_none (outcome_at t row) then blames.Unanswered
    else if is_missing (phase_of t row) then blames.Missing
    else blames.Error

-- by the name of a row
abbrev pub blame_named : Progress → List (Option (Key × Text)) → Text → Blame
blame_named t given name = option_map_or (blame_at t given) (number_of t.registered name) blames.Unanswered

abbrev pub phase_named : Progress → Text → Phase
phase_named t name = option_map_or (phase_of t) (number_of t.registered name) phase.Registered

-- the names of those of these rows that are to blame
abbrev pub blamed_at : Progress → List (Option (Key × Text)) → List ℕ → List Text
blamed_at t given rows = map (name_at t.registered) (filter (is_to_blame_at t given) rows)

-- what is said of each view that it sees
abbrev pub AsSeen : Player → (View → List Event → Type 0) → Type 0
AsSeen p says = (v : View) (past : List Event) → AreLawful v past → Sees v past (log_of v past) p → says v past

-- it has played these steps, in order, and no others
abbrev pub IsPlayed : List Step → Player → Type 0
IsPlayed steps p = (v : View) × HasPlayed v (reverse steps) p
