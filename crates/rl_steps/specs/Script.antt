-- A script of steps: what its lines say together, which of them a command takes, and which line is at fault.
use Rattle.std.specs.Prelude.{ℕ, ◌+◌, ◌==◌, ◌∷◌, [], List, Bool, true, false, not, if◌then◌else◌, nat_le, nat_lt, Option, Some, None}
use Rattle.std.specs.Prelude.{Result, Ok, Err}
use Rattle.std.specs.Option.{option_map_or, option_or}
use Rattle.std.specs.Str.{is_utf8}
use Rattle.rl_names.specs.Limits.{limit_of}
use Rattle.rl_names.specs.Rules.{number_of}
use Rattle.rl_names.specs.declared.counted.Counted.TheVariants as counted
use Rattle.rl_names.specs.declared.rule.Rule.TheVariants as rules
use Rattle.rl_view_spec.specs.Closure.{Text}
use Rattle.rl_script_spec.specs.Script.{Fault, Bad, TooManySteps, cut, trimmed, is_ignored, capped}
use Rattle.rl_script.specs.declared.script.ScriptError.{ScriptError}
use Rattle.rl_script.specs.declared.script.ScriptError.TheVariants.{BadLine, TooMany, NoMemory}
use Rattle.rl_steps.specs.Grammar.{step_of}
use Rattle.rl_steps.specs.declared.script.Kinds.{Kinds}
use Rattle.rl_steps.specs.declared.script.Kinds.TheVariants.{All, Race, Pages, Page}
use Rattle.rl_steps.specs.declared.step.Step.{Step}
use Rattle.rl_steps.specs.declared.step.Step.TheVariants.{Edit, Choice, Clock, View, Using, Load, Close, Embed}

-- ---- lines

-- The lines that are not ignored, each with its number, counted from 1 over all lines, and with its step: none where it is
-- not of the grammar.
abbrev pub said_from : ℕ → List Text → List (ℕ × Option Step)
said_from number [] = []
said_from number (text ∷ texts) =
    if is_ignored (trimmed text) then said_from (number + 1) texts else (number, step_of (trimmed text)) ∷ said_from (number + 1) texts

abbrev pub lines_of : Text → List (ℕ × Option Step)
lines_of bytes = said_from 1 (cut bytes)

abbrev pub steps_in : List (ℕ × Option Step) → List Step
steps_in [] = []
steps_in ((number, None) ∷ lines) = steps_in lines
steps_in ((number, Some step) ∷ lines) = step ∷ steps_in lines

-- ---- which steps a command takes

-- edits and options make the pages of a wiki
abbrev pub makes_pages : Step → Bool
makes_pages (Edit by title base text) = true
makes_pages (Choice user key value) = true
makes_pages other = false

-- what is done while others take, serve and deliver
abbrev pub is_raced : Step → Bool
is_raced (Edit by title base text) = true
is_raced (Choice user key value) = true
is_raced (Clock now) = true
is_raced (View user lang skin debug features) = true
is_raced (Using names) = true
is_raced (Load names) = true
is_raced Close = true
is_raced other = false

-- what a page is opened with, brings, and asks for
abbrev pub is_planned : Step → Bool
is_planned (View user lang skin debug features) = true
is_planned (Using names) = true
is_planned (Load names) = true
is_planned (Embed text) = true
is_planned other = false

abbrev pub is_embedded : Step → Bool
is_embedded (Embed text) = true
is_embedded other = false

-- all steps but an embedded text, which a plan alone has
abbrev pub is_taken : Kinds → Step → Bool
is_taken All step = not (is_embedded step)
is_taken Race step = is_raced step
is_taken Pages step = makes_pages step
is_taken Page step = is_planned step

-- A plan has one view, as its first step, then at most one embedded text, and then requests: so the number of steps before
-- a step says whether it is in its place.
abbrev pub is_in_plan : ℕ → Step → Bool
is_in_plan before (View user lang skin debug features) = before == 0
is_in_plan before (Embed text) = before == 1
is_in_plan before other = nat_le 1 before

-- steps of other scripts may stand anywhere
abbrev pub is_in_place : Kinds → ℕ → Step → Bool
is_in_place Page before step = is_in_plan before step
is_in_place other before step = true

-- ---- faults

-- Why a step may not stand behind so many others, if it may not: there are as many as there may be; the command does not
-- take it; it is out of its place.
abbrev pub step_fault : Kinds → ℕ → Step → Option Fault
step_fault kinds before step =
    if not (nat_lt before (limit_of counted.Steps)) then Some TooManySteps
    else if not (is_taken kinds step) then Some (Bad rules.WrongStep)
    else if not (is_in_place kinds before step) then Some (Bad rules.OutOfPlace)
    else None

-- before all this, a line may be none of the grammar
abbrev pub fault_after : Kinds → ℕ → Option Step → Option Fault
fault_after kinds before None = Some (Bad rules.Grammar)
fault_after kinds before (Some step) = step_fault kinds before step

-- the refusal that tells a fault of the line of this number
abbrev pub told : ℕ → Fault → ScriptError
told number (Bad rule) = BadLine number (number_of rule)
told number TooManySteps = TooMany (limit_of counted.Steps + 1)

-- the first line that may not stand where it does, and why, of lines that stand after so many steps
abbrev pub first_fault : Kinds → ℕ → List (ℕ × Option Step) → Option ScriptError
first_fault kinds before [] = None
first_fault kinds before ((number, said) ∷ lines) =
    option_map_or (λ fault. Some (told (capped number) fault)) (fault_after kinds before said) (first_fault kinds (before + 1) lines)

-- a plan without steps lacks its view
abbrev pub lack_of : Kinds → List Step → Option ScriptError
lack_of Page [] = Some (told 0 (Bad rules.OutOfPlace))
lack_of kinds steps = None

-- ---- what a script is to a command

-- the first of these that holds: bytes that are not UTF-8, a line at fault, and a plan without steps
abbrev pub fault_of : Kinds → Text → Option ScriptError
fault_of kinds bytes =
    if is_utf8 bytes then option_or (first_fault kinds 0 (lines_of bytes)) (lack_of kinds (steps_in (lines_of bytes)))
    else Some (told 0 (Bad rules.NotUtf8))

-- its steps, one for each line that is not ignored, in order, or its first fault
abbrev pub script_of : Kinds → Text → Result (List Step) ScriptError
script_of kinds bytes = option_map_or Err (fault_of kinds bytes) (Ok (steps_in (lines_of bytes)))

-- the refusal that an error tells; want of memory is none
abbrev pub refusal : ScriptError → Option ScriptError
refusal NoMemory = None
refusal why = Some why
