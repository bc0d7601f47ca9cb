-- What a command makes of its files, before anything is written.
use Rattle.std.specs.Prelude.{◌≡◌, ℕ, List, [], Bool, true, false, slice_index_or, Option, Some, None, Result, Ok, Err, option_and_then}
use Rattle.std.specs.Option.{option_map_or}
use Rattle.rl_names.specs.declared.counted.Counted.{Counted}
use Rattle.rl_names.specs.declared.counted.Counted.TheVariants as counted
use Rattle.rl_names.specs.declared.name.Key.{Key}
use Rattle.rl_names.specs.Rules.{number_of}
use Rattle.rl_view_spec.specs.Closure.{Text}
use Rattle.rl_script_spec.specs.Script as script
use Rattle.rl_script_spec.specs.Unready.{unready_in}
use Rattle.rl_script_spec.specs.declared.Unready.{Unready}
use Rattle.rl_view_spec.specs.View.{Throws}
use Rattle.rl_view.specs.Heard.{HearsFront, after_hearing}
use Rattle.rl_drive.specs.Hearing.{executions_in}
use Rattle.rl_defs.specs.Breach.{reading}
use Rattle.rl_defs.specs.Catalogue.{Catalogue}
use Rattle.rl_defs.specs.Refusal as definitions
use Rattle.rl_pages.specs.declared.viewer.Viewer.{Viewer}
use Rattle.rl_build.specs.Context.{context_of}
use Rattle.rl_build.specs.Sight.{sight}
use Rattle.rl_loadphp.specs.Refusal as query
use Rattle.rl_loadphp.specs.declared.answers.Answer.{Answer}
use Rattle.rl_startup.specs.Registry.{startup_text_of}
use Rattle.rl_wiki.specs.Front.{wiki_answer}
use Rattle.rl_wiki.specs.Wiki.{WikiState}
use Rattle.rl_script.specs.declared.script.ScriptError.{ScriptError}
use Rattle.rl_script.specs.declared.script.ScriptError.TheVariants as pages
use Rattle.rl_steps.specs.Script.{script_of}
use Rattle.rl_steps.specs.declared.script.Kinds.TheVariants.{Pages}
use Rattle.rl_steps.specs.declared.step.Step.{Step}
use Rattle.rl_cli.specs.Check.{check_text}
use Rattle.rl_cli.specs.Pages.{history_of}
use Rattle.rl_cli.specs.Words.{Command, Drive, Load, Startup, Check}
use Rattle.rl_cli.specs.declared.work.Printed.{Printed}
use Rattle.rl_cli.specs.declared.work.WorkError.{WorkError}
use Rattle.rl_cli.specs.declared.work.WorkError.TheVariants as errors

-- The word of a file that breaks a rule, the line, where 0 stands for the file as a whole, the number of the rule, and of
-- definitions what breaks it. Or the word at which there is more of something than its limit allows.
pub data Fault : Type 0 where
  Breaks : (word line why : ℕ) (breach : Option definitions.Refusal) → Fault
  Exceeds : (word : ℕ) (what : Counted) (count : ℕ) → Fault

-- an output, with whether every requested name is ready at the end, and why not, or a fault
abbrev pub Verdict : Type 0
Verdict = Result Printed Fault

-- the fault that an error tells
abbrev pub fault_told : WorkError → Option Fault
fault_told (errors.Breaks word line why breach) = Some (Breaks word line why (option_and_then definitions.refusal_told breach))
fault_told (errors.Exceeds word what count) = Some (Exceeds word what count)
fault_told errors.NoMemory = None

-- what a script comes to, which the word of this place names, and why not everything was served
abbrev pub of_script : ℕ → Option Unready → script.Verdict → Verdict
of_script place unready (script.Prints text ready) = Ok record { text = text; ready = ready; word = place; unready = unready }
of_script place unready (script.BadLine line why) = Err (Breaks place line why None)
of_script place unready (script.TooMany what count) = Err (Exceeds place what count)

-- definitions are refused, which the word of this place names
abbrev pub of_breach : ℕ → definitions.Refusal → Fault
of_breach place (definitions.TooMany what count) = Exceeds place what count
of_breach place breach = Breaks place 0 (option_map_or number_of (definitions.rule_broken breach) 0) (Some breach)

-- a query is refused, which is the word of this place
abbrev pub of_query : ℕ → query.Refusal → Fault
of_query place (query.QueryTooLong len) = Exceeds place counted.QueryBytes len
of_query place (query.TooManyNames count) = Exceeds place counted.Names count
of_query place (query.AnswerTooLong len) = Exceeds place counted.AnswerBytes len

-- What is sent for a query is printed. It has no requests.
abbrev pub of_answer : ℕ → Result Answer query.Refusal → Verdict
of_answer place (Ok answer) = Ok record { text = answer.body; ready = true; word = 0; unready = None }
of_answer place (Err refusal) = Err (of_query place refusal)

-- the bytes of the file of this number, counted from 0
abbrev pub file_at : List Text → ℕ → Text
file_at files number = slice_index_or files number []

-- a line of pages is at fault, or there are too many, in the file that the word of this place names
abbrev pub of_lines : ℕ → ScriptError → Fault
of_lines place (pages.BadLine line why) = Breaks place line why None
of_lines place (pages.TooMany count) = Exceeds place counted.Steps count
of_lines place pages.NoMemory = Breaks place 0 0 None

-- the steps of the file of pages; without a file there are none
abbrev pub steps_in : Bool → List Text → Result (List Step) ScriptError
steps_in true files = script_of Pages (file_at files 1)
steps_in false files = Ok []

-- Definitions and steps make a wiki. Bad definitions are answered before the pages are looked at.
abbrev pub wiki_with : Result Catalogue definitions.Refusal → Result (List Step) ScriptError → Result WikiState Fault
wiki_with (Ok catalogue) (Ok steps) = Ok record { catalogue = catalogue; entries = history_of catalogue.admins steps }
wiki_with (Ok catalogue) (Err why) = Err (of_lines 2 why)
wiki_with (Err breach) steps = Err (of_breach 1 breach)

-- the wiki that the files make
abbrev pub wiki_in : Bool → List Text → Result WikiState Fault
wiki_in paged files = wiki_with (reading (file_at files 0)) (steps_in paged files)

-- what the wiki answers to a viewer is printed, or why there is no wiki
abbrev pub of_load : Viewer → Text → Result WikiState Fault → Verdict
of_load viewer asked (Ok wiki) = of_answer 4 (wiki_answer wiki.catalogue wiki.entries viewer asked)
of_load viewer asked (Err fault) = Err fault

-- What a client of the viewer starts from is printed. It has no requests.
abbrev pub of_start : Viewer → Text → Text → Result WikiState Fault → Verdict
of_start viewer lang skin (Ok wiki) = Ok record {
  text = startup_text_of (sight wiki.catalogue wiki.entries viewer) (context_of wiki.catalogue lang skin false);
  ready = true;
  word = 0;
  unready = None;
}
of_start viewer lang skin (Err fault) = Err fault

-- What an author is told of the wiki is printed. It has no requests.
abbrev pub of_check : Result WikiState Fault → Verdict
of_check (Ok wiki) = Ok record { text = check_text wiki.catalogue wiki.entries; ready = true; word = 0; unready = None }
of_check (Err fault) = Err fault

-- what a command makes of the bytes of its files, where observers throw for these scripts
abbrev pub verdict_on : Throws → Command → List Text → Verdict
verdict_on throws Drive files = of_script 1 (unready_in throws (file_at files 0)) (script.verdict_of throws (file_at files 0))
verdict_on throws (Load paged viewer asked) files = of_load viewer asked (wiki_in paged files)
verdict_on throws (Startup paged viewer lang skin) files = of_start viewer lang skin (wiki_in paged files)
verdict_on throws (Check paged) files = of_check (wiki_in paged files)

-- what it executes
abbrev pub executed_by : Throws → Command → List Text → List (Key × Text)
executed_by throws Drive files = executions_in throws (file_at files 0)
executed_by throws (Load paged viewer asked) files = []
executed_by throws (Startup paged viewer lang skin) files = []
executed_by throws (Check paged) files = []

-- All that it executes is heard of, or a front of it where memory ran out. Where the work comes to nothing, nothing is.
abbrev pub IsHeard : Result Printed WorkError → List (Key × Text) → List (List (Key × Text)) → List (List (Key × Text)) → Type 0
IsHeard (Ok printed) executed heard heard' = heard' ≡ after_hearing executed heard
IsHeard (Err errors.NoMemory) executed heard heard' = HearsFront executed heard heard'
IsHeard (Err other) executed heard heard' = heard' ≡ heard
