-- What observers hear of a script.
use Rattle.std.specs.Prelude.{◌≡◌, List, Result, Ok, Err}
use Rattle.rl_names.specs.declared.name.Key.{Key}
use Rattle.rl_names.specs.declared.text.NoMemory.{NoMemory}
use Rattle.rl_view_spec.specs.Closure.{Text}
use Rattle.rl_view_spec.specs.View.{Throws}
use Rattle.rl_script_spec.specs.Script.{view_of, history_of}
use Rattle.rl_view.specs.Heard.{after_hearing, executions, HearsFront}
use Rattle.rl_drive.specs.declared.script.DriveError.{DriveError}
use Rattle.rl_drive.specs.declared.script.DriveError.TheVariants as errors
use Rattle.rl_drive.specs.declared.steps.Driven.{Driven}

-- the executions of a script that is printed, in order
abbrev pub executions_in : Throws → Text → List (Key × Text)
executions_in throws bytes = executions (view_of throws bytes) (history_of throws bytes)

-- All of them are heard, or a front of them where memory ran out. Of a script that is refused nothing is.
abbrev pub AreHeard : Result Driven DriveError → List (Key × Text) → List (List (Key × Text)) → List (List (Key × Text)) → Type 0
AreHeard (Ok driven) heard told told' = told' ≡ after_hearing heard told
AreHeard (Err errors.NoMemory) heard told told' = HearsFront heard told told'
AreHeard (Err other) heard told told' = told' ≡ told

-- steps are played to their end, or a front of what they execute is heard where memory ran out
abbrev pub ArePlayed : Result Driven NoMemory → List (Key × Text) → List (List (Key × Text)) → List (List (Key × Text)) → Type 0
ArePlayed (Ok driven) heard told told' = told' ≡ after_hearing heard told
ArePlayed (Err error) heard told told' = HearsFront heard told told'
