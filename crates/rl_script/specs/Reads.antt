-- What the reading of a script answers.
use Rattle.std.specs.Prelude.{◌≡◌, ◌++◌, ◌∷◌, ℕ, List, [], length, Option, Some, None, option_map, Result, Ok, Err}
use Rattle.std.specs.Option.{option_map_or}
use Rattle.rl_names.specs.Meant.{ButForMemory}
use Rattle.rl_names.specs.declared.counted.Counted.TheVariants as counted
use Rattle.rl_script_spec.specs.declared.Line.{Line}
use Rattle.rl_script_spec.specs.Script.{Fault, Verdict, BadLine, TooMany, fault_after, fault_verdict, first_fault, last_features, registered_in, rows_in}
use Rattle.rl_script_spec.specs.Script.{steps_in}
use Rattle.rl_script.specs.declared.script.Script.{Script}
use Rattle.rl_script.specs.declared.script.ScriptError.{ScriptError}
use Rattle.rl_script.specs.declared.script.ScriptError.TheVariants as error

-- the verdict that an error tells; none for want of memory
abbrev pub plain : ScriptError → Option Verdict
plain (error.BadLine line why) = Some (BadLine line why)
plain (error.TooMany count) = Some (TooMany counted.Steps count)
plain error.NoMemory = None

-- an error tells of the fault
abbrev pub Tells : ScriptError → Option (ℕ × Fault) → Type 0
Tells error fault = (verdict : Verdict) → plain error ≡ Some verdict → option_map fault_verdict fault ≡ Some verdict

-- the rows, features and steps that lines say
pub record Says (lines : List (ℕ × Line)) (script : Script) : Type 0 where
  pub whole : first_fault 0 lines ≡ None
  pub registered : registered_in lines ≡ record { rows = script.rows.items; features = script.features.items }
  pub steps : steps_in lines ≡ script.steps.items

-- what the lines say where none is at fault, or the first fault
abbrev pub Reads : Result Script ScriptError → List (ℕ × Line) → Type 0
Reads result lines = ButForMemory plain (Says lines) (λ verdict. option_map fault_verdict (first_fault 0 lines) ≡ Some verdict) result

-- a script takes in what one more line says, or the line may not stand there
abbrev pub TakesIn : Script → ℕ × Line → Result (Unit {0}) ScriptError → Script → Type 0
TakesIn before (number, line) (Ok done) after =
    (fault_after (length before.steps.items) line ≡ None)
    × (after.rows.items ≡ before.rows.items ++ rows_in ((number, line) ∷ []))
    × (after.features.items ≡ option_map_or (λ features. features) (last_features ((number, line) ∷ [])) before.features.items)
    × (after.steps.items ≡ before.steps.items ++ steps_in ((number, line) ∷ []))
TakesIn before (number, line) (Err error) after = Tells error (option_map (λ fault. (number, fault)) (fault_after (length before.steps.items) line))
