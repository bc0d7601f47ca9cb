-- A script: its lines, what they say together, and what `drive` makes of it.
use Rattle.std.specs.Prelude.{ℕ, ◌+◌, ◌==◌, ◌∷◌, [], List, Bool, true, if◌then◌else◌, min, nat_lt, reverse, Option, Some, None}
use Rattle.std.specs.List.{slice_split}
use Rattle.std.specs.Option.{option_map_or, option_or}
use Rattle.std.specs.Str.{is_utf8}
use Rattle.rl_names.specs.Limits.{limit_of}
use Rattle.rl_names.specs.Rules.{number_of}
use Rattle.rl_names.specs.declared.counted.Counted.{Counted}
use Rattle.rl_names.specs.declared.counted.Counted.TheVariants as counted
use Rattle.rl_names.specs.declared.row.Row.{Row}
use Rattle.rl_names.specs.declared.rule.Rule.{Rule}
use Rattle.rl_names.specs.declared.rule.Rule.TheVariants as rules
use Rattle.rl_view_spec.specs.Breach as breach
use Rattle.rl_view_spec.specs.Closure.{Text, Registered}
use Rattle.rl_view_spec.specs.View.{Event, View, Throws}
use Rattle.rl_script_spec.specs.Grammar.{line_of}
use Rattle.rl_script_spec.specs.Output.{events_of, output_of, all_ready}
use Rattle.rl_script_spec.specs.declared.Line.{Line}
use Rattle.rl_script_spec.specs.declared.Line.TheVariants.{Registers, HasFeatures, Does, Faulty}
use Rattle.rl_script_spec.specs.declared.Step.{Step}

-- ---- lines

-- cut at line feeds alone
abbrev pub cut : Text → List Text
cut bytes = slice_split (λ byte. byte == 10) bytes

-- without one carriage return at the end
abbrev pub trimmed : Text → Text
trimmed [] = []
trimmed (byte ∷ []) = if byte == 13 then [] else byte ∷ []
trimmed (byte ∷ next ∷ bytes) = byte ∷ trimmed (next ∷ bytes)

-- a line that says nothing: an empty one, or one that begins with '#'
abbrev pub is_ignored : Text → Bool
is_ignored [] = true
is_ignored (byte ∷ bytes) = byte == 35

-- what a line says, where it is not ignored
abbrev pub said_of : Text → Option Line
said_of text = if is_ignored (trimmed text) then None else Some (line_of (trimmed text))

-- the lines that are not ignored, each with its number
abbrev pub said_from : ℕ → List Text → List (ℕ × Line)
said_from number [] = []
said_from number (text ∷ texts) = option_map_or (λ line. (number, line) ∷ said_from (number + 1) texts) (said_of text) (said_from (number + 1) texts)

abbrev pub lines_of : Text → List (ℕ × Line)
lines_of bytes = said_from 1 (cut bytes)

-- ---- what the lines say together

abbrev pub rows_in : List (ℕ × Line) → List Row
rows_in [] = []
rows_in ((number, Registers row) ∷ lines) = row ∷ rows_in lines
rows_in ((number, other) ∷ lines) = rows_in lines

-- the last line of features counts, if there is one
abbrev pub last_features : List (ℕ × Line) → Option (List Text)
last_features [] = None
last_features ((number, HasFeatures features) ∷ lines) = option_or (last_features lines) (Some features)
last_features ((number, other) ∷ lines) = last_features lines

abbrev pub steps_in : List (ℕ × Line) → List Step
steps_in [] = []
steps_in ((number, Does step) ∷ lines) = step ∷ steps_in lines
steps_in ((number, other) ∷ lines) = steps_in lines

abbrev pub registered_in : List (ℕ × Line) → Registered
registered_in lines = record { rows = rows_in lines; features = option_map_or (λ features. features) (last_features lines) [] }

-- ---- faults

-- a line breaks a rule, or is one step more than a script may have
pub data Fault : Type 0 where
  Bad : (rule : Rule) → Fault
  TooManySteps : Fault

-- Why a line may not stand after so many steps, if it may not: it is not of the grammar, it is a row or features after a
-- step, or it is a step after as many others as there may be.
abbrev pub fault_after : ℕ → Line → Option Fault
fault_after steps Faulty = Some (Bad rules.Grammar)
fault_after steps (Registers row) = if steps == 0 then None else Some (Bad rules.OutOfPlace)
fault_after steps (HasFeatures features) = if steps == 0 then None else Some (Bad rules.OutOfPlace)
fault_after steps (Does step) = if nat_lt steps (limit_of counted.Steps) then None else Some TooManySteps

abbrev pub steps_with : ℕ → Line → ℕ
steps_with steps (Does step) = steps + 1
steps_with steps other = steps

-- the first line that may not stand where it does, and why, of lines that stand after so many steps
abbrev pub first_fault : ℕ → List (ℕ × Line) → Option (ℕ × Fault)
first_fault steps [] = None
first_fault steps ((number, line) ∷ lines) = option_map_or (λ fault. Some (number, fault)) (fault_after steps line)
    (first_fault (steps_with steps line) lines)

-- ---- what `drive` makes of a file

-- It prints this output, and every requested name is ready at the end or is not. Or a line is bad, where line 0 stands
-- for the file as a whole. Or there are more of something than the limit allows.
pub data Verdict : Type 0 where
  Prints : (text : Text) (ready : Bool) → Verdict
  BadLine : (line why : ℕ) → Verdict
  TooMany : (what : Counted) (count : ℕ) → Verdict

-- line numbers as they are given
abbrev pub capped : ℕ → ℕ
capped number = min number 4294967295

abbrev pub fault_verdict : ℕ × Fault → Verdict
fault_verdict (number, Bad broken) = BadLine (capped number) (number_of broken)
fault_verdict (number, TooManySteps) = TooMany counted.Steps (limit_of counted.Steps + 1)

abbrev pub breach_verdict : breach.Breach → Verdict
breach_verdict (breach.TooMany what count) = TooMany what count
breach_verdict (breach.Duplicate name) = BadLine 0 (number_of rules.Duplicate)
breach_verdict (breach.BadIndex row index) = BadLine 0 (number_of rules.BadIndex)

-- the view that a script speaks of, its steps in order, and what they came to
abbrev pub view_of : Throws → Text → View
view_of throws bytes = record { registered = registered_in (lines_of bytes); throws = throws }

abbrev pub steps_of : Text → List Step
steps_of bytes = steps_in (lines_of bytes)

-- the newest first
abbrev pub history_of : Throws → Text → List Event
history_of throws bytes = events_of (view_of throws bytes).registered (reverse (steps_of bytes))

abbrev pub printed : Throws → Text → Verdict
printed throws bytes = Prints (output_of (view_of throws bytes) (reverse (steps_of bytes))) (all_ready (view_of throws bytes) (reverse (steps_of bytes)))

-- The first of these that holds: bytes that are not UTF-8, a line at fault, and a breach of the registry's rules.
abbrev pub verdict_of : Throws → Text → Verdict
verdict_of throws bytes =
    if is_utf8 bytes
    then option_map_or fault_verdict (first_fault 0 (lines_of bytes))
    (option_map_or breach_verdict (breach.breach_of (rows_in (lines_of bytes))) (printed throws bytes))
    else BadLine 0 (number_of rules.NotUtf8)
